-- `line::join` meets its contract.
use Rattle.line.proofs.Ring.{full_stays, room_joins}
use Rattle.line.proofs.join.Goals as goal

pub returns-then-len-eq-MOVES : goal.returns-then-len-eq-MOVES
returns-then-len-eq-MOVES c =
    full_stays _ _ c.len.ensures.0 c.if-len-eq-MOVES.true

pub returns : goal.returns
returns c =
    room_joins _ _ _ c.len.ensures.0 c.if-len-eq-MOVES.false c.append.ensures
