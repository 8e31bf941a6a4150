-- `exports::port::srp_target_step` meets its contract.
use Rattle.exports.proofs.InC.{says, step_in_c}
use Rattle.exports.proofs.port.srp_target_step.Goals as goal

pub returns-in-Ok-Operation : goal.returns-in-Ok-Operation
returns-in-Ok-Operation c =
    step_in_c c.args.direction c.direction_of-d.ensures c.step-r.ensures (says 0 c.in-Ok-Operation.is (rw c.in-Ok-Operation.is at c.in-Ok-Operation.field-0-is) (c.operation_words.ensures 0))

pub returns-in-Ok-Done : goal.returns-in-Ok-Done
returns-in-Ok-Done c =
    step_in_c c.args.direction c.direction_of-d.ensures c.step-r.ensures (says 0 c.in-Ok-Done.is (rw c.in-Ok-Done.is at c.in-Ok-Done.field-0-is) (c.done_words.ensures 0))
