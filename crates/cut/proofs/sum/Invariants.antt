-- `cut::sum` meets its contract.
use Rattle.cut.proofs.Sums.{Summing}
use Rattle.cut.proofs.sum.Given as goal

abbrev pub invariant-loop-i : goal.invariant-loop-i
invariant-loop-i l =
    Summing l.list l.i l.so_far
