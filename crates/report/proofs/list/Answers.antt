-- `report::list` meets its contract: each turn writes the next record.
use mathlib.Core.Path.{◌≡◌, ◌∙◌, sym, ap}
use Prim.Native.Nat.{◌≤◌}
use native.Mathlib.Omega.{arith}
use lib.ListN.{length, take, replicate, length-take}
use lib.Seq.{take_all}
use Rattle.words.specs.Sizes.{most_slots}
use Rattle.report.specs.Reports.{slot_records}
use Rattle.report.proofs.Listed.{write_more, lists, by_value}
use Rattle.report.proofs.list.Goals as goal

pub loop-i-preserved : goal.loop-i-preserved
loop-i-preserved c =
    let L = c.loop-i in
    let long = length-take c.unwrap_or-count.result (replicate most_slots c.default-records.result) in
    write_more c.args.s.now L.record-items L.i c.record_at.result (omega (arith, L.auto.record-items)) (omega (arith, L.auto.record-items, long)) L.invariant c.record_at.ensures

pub returns : goal.returns
returns c = λ st.
    let n = c.unwrap_or-count in
    let L = c.loop-i in
    let M = lists c.held_for-held.result c.map.result c.held_for-held.ensures c.map.ensures.cases st in
    let size = length-take n.result (replicate most_slots c.default-records.result) in
    let all : L.i ≡ n.result = omega (arith, L.auto.record-items, L.auto.i-end, c.loop-i-test.false, n.ensures, M.small, size) in
    let done : length L.record-items ≤ L.i = omega (arith, L.auto.record-items, c.loop-i-test.false) in
    let which = sym (take_all L.i L.record-items done) ∙ L.invariant ∙ ap (λ m. take m (slot_records c.args.s.now)) (all ∙ n.ensures) in
    rw n.ensures (by_value st c.default-records.result c.default-records.ensures M L.record-items which)
