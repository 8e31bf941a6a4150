-- `cutlist::output::fill` meets its contract: the loop's invariant is `Filling`; the measure is how many bytes are left. A piece is always there, so the arm without one is never taken.
use Prim.Native.Nat.{◌-◌}
use Rattle.srp.specs.Descriptors.{segments_of}
use Rattle.cutlist.proofs.Filling.{Filling}
use Rattle.cutlist.proofs.output.fill.Given as goal

abbrev pub invariant-loop-next : goal.invariant-loop-next
invariant-loop-next l =
    Filling l.kind l.from l.to (segments_of l.list) l.initial.text l.text l.end l.next

abbrev pub decreases-loop-next : goal.decreases-loop-next
decreases-loop-next l =
    l.to - l.next
