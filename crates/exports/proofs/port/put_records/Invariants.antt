use Rattle.report.specs.Reports.{slot_records}
use Rattle.exports.proofs.Listing.{Filled}
use Rattle.exports.proofs.port.put_records.Given as goal

abbrev pub invariant-loop-i : goal.invariant-loop-i
invariant-loop-i l = Filled (slot_records l.port) l.initial.records l.records l.i
