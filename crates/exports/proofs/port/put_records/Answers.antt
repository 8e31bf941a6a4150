-- `exports::port::put_records` meets its contract: each turn writes the next record.
use mathlib.Core.Path.{◌≡◌, sym, ◌∙◌}
use native.Mathlib.Omega.{arith}
use lib.ListN.{length, get_or, get_or-map, length-map}
use Rattle.srp.specs.Limits.{most_buffers}
use Rattle.words.specs.Sizes.{most_slots}
use Rattle.words.specs.Slots.{slots, no_slot}
use Rattle.words.proofs.Slots.{slots_long}
use Rattle.report.specs.Reports.{slot_record, slot_records}
use Rattle.exports.proofs.Listing.{fill_more}
use Rattle.exports.proofs.port.put_records.Goals as goal

pub loop-i-preserved : goal.loop-i-preserved
loop-i-preserved c =
    let l = c.args.port.now in
    let i = c.loop-i.i in
    let long : length (slot_records l) ≡ most_buffers = length-map (slots l) slot_record ∙ slots_long most_slots 0 l in
    let r : c.record_at.result ≡ get_or (slot_records l) i (slot_record no_slot) = c.record_at.ensures ∙ sym (get_or-map slot_record (slots l) i no_slot) in
    rw (c.put_record.ensures, r) (fill_more c.loop-i.invariant (omega arith) (omega arith) (slot_record no_slot))
