-- `state::find` meets its contract.
use Rattle.state.proofs.Held.{Searching}
use Rattle.state.proofs.find.Given as goal

abbrev pub invariant-loop-i : goal.invariant-loop-i
invariant-loop-i l = Searching l.s l.tag l.held l.i
