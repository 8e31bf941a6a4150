use borrow.Author.Rules.{rules}
use Rattle.words.proofs.Slots.{head_written}
use Rattle.words.proofs.set_head.Goals as goal

-- src/lib.rt:170:1
pub returns : goal.returns
returns c =
    rw (c.put.ensures, c.head_words-w.ensures) (head_written c.args.s.now (search rules) c.args.h c.requires.head_fits)
