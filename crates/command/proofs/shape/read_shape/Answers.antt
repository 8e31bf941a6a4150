-- `command::shape::read_shape` meets its contract: goals near the search's limits.
use Rattle.std.proofs.Common.{arith}
use Rattle.std.proofs.lemmas.Grind.{common_steps}
use Rattle.command.proofs.shape.read_shape.Goals as goal

pub returns-in_default-get-clause-shape : goal.returns-in_default-get-clause-shape
returns-in_default-get-clause-shape c = grind (arith, common_steps)

pub returns-in_default-get-2-clause-shape : goal.returns-in_default-get-2-clause-shape
returns-in_default-get-2-clause-shape c = grind (arith, common_steps)

pub returns-in_default-counted_descriptor-clause-shape : goal.returns-in_default-counted_descriptor-clause-shape
returns-in_default-counted_descriptor-clause-shape c = grind (arith, common_steps)

pub returns-in_default-counted_descriptor-2-clause-shape : goal.returns-in_default-counted_descriptor-2-clause-shape
returns-in_default-counted_descriptor-2-clause-shape c = grind (arith, common_steps)

pub returns-clause-shape : goal.returns-clause-shape
returns-clause-shape c = grind (arith, common_steps)
