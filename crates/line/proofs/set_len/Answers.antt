-- `line::set_len` meets its contract.
use borrow.Author.Rules.{rules}
use Rattle.line.proofs.Ring.{length_put}
use Rattle.line.proofs.set_len.Goals as goal

pub returns : goal.returns
returns c =
    length_put c.args.s.now (search rules) c.args.n c.requires.n_le_most_moves
