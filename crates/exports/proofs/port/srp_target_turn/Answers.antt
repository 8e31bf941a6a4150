-- `exports::port::srp_target_turn` meets its contract.
use Rattle.exports.proofs.InC.{says, turn_in_c}
use Rattle.exports.proofs.port.srp_target_turn.Goals as goal

pub returns-in-Ok-Served : goal.returns-in-Ok-Served
returns-in-Ok-Served c = turn_in_c c.turn-r.ensures (says 0 c.in-Ok-Served.is (rw c.in-Ok-Served.is at c.in-Ok-Served.field-0-is) (c.served_words.ensures 0))
