-- `cutlist::print_operations` meets its contract: the loop keeps the text's length; each text that is filled takes some bytes of what is left, which is the measure.
use mathlib.Core.Path.{◌≡◌}
use Prim.Native.Nat.{◌-◌}
use lib.ListN.{length}
use Rattle.cutlist.proofs.print_operations.Given as goal

abbrev pub invariant-loop-from : goal.invariant-loop-from
invariant-loop-from g l =
    length l.lines ≡ 8192

abbrev pub decreases-loop-from : goal.decreases-loop-from
decreases-loop-from g l =
    l.total - l.from
