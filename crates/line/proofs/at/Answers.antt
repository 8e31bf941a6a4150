-- `line::at` meets its contract.
use Rattle.line.proofs.Ring.{place_there}
use Rattle.line.proofs.at.Goals as goal

pub returns : goal.returns
returns c =
    let a = c.args in
    rw c.place_at-k.ensures.0
    (place_there a.s.now a.j c.requires.j_lt_most_moves c.direction_of.result (rw c.place_at-k.ensures.0 at c.direction_of.ensures))
