-- `state::leave` meets its contract.
use Rattle.state.proofs.Parting.{Parting}
use Rattle.state.proofs.moves.leave.Given as goal

abbrev pub invariant-loop-i : goal.invariant-loop-i
invariant-loop-i l = Parting l.which l.n l.initial.s l.s l.i l.kept
