-- `take::end_task` meets its contract.
use native.Mathlib.Omega.{arith}
use Rattle.state.specs.declared.Ending.TheVariants.{Aborted}
use Rattle.state.proofs.Promises.{announced_same}
use Rattle.take.proofs.Endings.{task_ends}
use Rattle.take.proofs.end_task.Goals as goal

pub answer-requires-clause-bound : goal.answer-requires-clause-bound
answer-requires-clause-bound c = omega (arith, announced_same (Aborted c.args.t) c.drop_commands.ensures)

pub returns : goal.returns
returns c = task_ends c.args.t c.requires.s_value c.drop_commands.ensures c.code_of.ensures c.answer.ensures
