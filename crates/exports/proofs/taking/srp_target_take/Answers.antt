-- `exports::taking::srp_target_take` meets its contract.
use Rattle.exports.proofs.InC.{says, take_in_c}
use Rattle.exports.proofs.taking.srp_target_take.Goals as goal

pub returns-in-Ok-NewCommand : goal.returns-in-Ok-NewCommand
returns-in-Ok-NewCommand c =
    let e = c.in-Ok-NewCommand.is in
    take_in_c c.take-a.ensures (says c.take-a.result.wrote e (rw e at c.in-Ok-NewCommand.field-0-is) c.command_words.ensures)
