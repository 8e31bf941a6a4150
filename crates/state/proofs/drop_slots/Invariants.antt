-- `state::drop_slots` meets its contract.
use Rattle.state.proofs.Held.{Dropping}
use Rattle.state.proofs.drop_slots.Given as goal

abbrev pub invariant-loop-i : goal.invariant-loop-i
invariant-loop-i l =
    Dropping l.which l.held l.initial.s l.s l.i l.kept
