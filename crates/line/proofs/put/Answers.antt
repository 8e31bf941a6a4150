-- `line::put` meets its contract.
use borrow.Author.Rules.{rules}
use Rattle.line.proofs.Ring.{place_put}
use Rattle.line.proofs.put.Goals as goal

pub returns : goal.returns
returns c =
    let a = c.args in
    rw (c.word_of.ensures, c.place_at-k.ensures.0)
    (place_put a.s.now (search rules) a.j a.x c.requires.j_lt_most_moves)
