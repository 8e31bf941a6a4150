-- `store::places` meets its contract.
use Rattle.store.proofs.Marks.{Marking}
use Rattle.store.proofs.places.Given as goal

abbrev pub invariant-loop-i : goal.invariant-loop-i
invariant-loop-i l =
    Marking l.but l.s l.held l.used l.i
