-- The records so far are those of the first slots.
use Rattle.std.proofs.Common.{◌≡◌, take}
use Rattle.report.specs.Reports.{slot_records}
use Rattle.report.proofs.list.Given as goal

abbrev pub invariant-loop-i : goal.invariant-loop-i
invariant-loop-i l = take l.i l.record-items ≡ take l.i (slot_records l.s)
