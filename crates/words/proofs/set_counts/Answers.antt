use borrow.Author.Rules.{rules}
use Rattle.words.proofs.Words.{recounted_put}
use Rattle.words.proofs.set_counts.Goals as goal

-- src/lib.rt:179:1
pub returns : goal.returns
returns c =
    let h = c.args.h in
    recounted_put c.args.s.now h.held h.wanted h.announced h.unanswered (search rules) c.requires.counts_fit
