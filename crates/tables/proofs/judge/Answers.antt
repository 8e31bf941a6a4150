-- `tables::judge` meets its contract.
use mathlib.Core.Path.{◌∙◌, sym, ap}
use Rattle.words.specs.declared.Slot.{Slot}
use Rattle.tables.proofs.Judged.{unfit_out, unfit_in, bad_out, bad_in, supplies}
use Rattle.tables.proofs.judge.Goals.{then-out-fetched_length-via-then-out-fetched_length, then-out-fetched_length-via-else-out-fetched_length+then-inn-fetched_length}
use Rattle.tables.proofs.judge.Goals as goal

pub returns-then-out-fetched_length : goal.returns-then-out-fetched_length
returns-then-out-fetched_length c =
    let a = c.args in
    let r = c.requires in
    let S = c.load-place.ensures in
    elim c.then-out-fetched_length.branch [
      | then-out-fetched_length-via-then-out-fetched_length w ↦
          unfit_out a.store.now a.buf.now a.out.now a.inn.now r.s_value r.found_at S r.no_slot_value r.buffer_size_in_bounds (λ e. w.if-out-fetched_length.true (e ∙ sym c.fetched_length.ensures))
      | then-out-fetched_length-via-else-out-fetched_length+then-inn-fetched_length w ↦
          unfit_in a.store.now a.buf.now a.out.now a.inn.now r.s_value r.found_at S r.no_slot_value r.buffer_size_in_bounds (w.if-out-fetched_length.false ∙ c.fetched_length.ensures)
          (λ e. w.if-inn-fetched_length.true (e ∙ sym w.fetched_length-else-out-fetched_length.ensures))
    ]

pub returns-in_default : goal.returns-in_default
returns-in_default c =
    let a = c.args in
    let r = c.requires in
    let t = ap (λ (x : Slot). x.request.tag) c.load-place.ensures.whole ∙ r.found_at.tagged in
    bad_out a.store.now a.buf.now a.out.now a.inn.now r.s_value r.found_at c.load-place.ensures r.no_slot_value r.buffer_size_in_bounds (c.if-out-fetched_length.false ∙ c.fetched_length.ensures)
    (c.if-inn-fetched_length.false ∙ c.fetched_length-else-out-fetched_length.ensures) c.in_default.ensures (rw t at c.end_bad.ensures)

pub returns-in_default-part_at : goal.returns-in_default-part_at
returns-in_default-part_at c =
    let a = c.args in
    let r = c.requires in
    let t = ap (λ (x : Slot). x.request.tag) c.load-place.ensures.whole ∙ r.found_at.tagged in
    bad_in a.store.now a.buf.now a.out.now a.inn.now r.s_value r.found_at c.load-place.ensures r.no_slot_value r.buffer_size_in_bounds (c.if-out-fetched_length.false ∙ c.fetched_length.ensures)
    (c.if-inn-fetched_length.false ∙ c.fetched_length-else-out-fetched_length.ensures) c.in-Some.ensures c.in_default-part_at.ensures (rw t at c.end_bad-in_default-part_at.ensures)

pub returns : goal.returns
returns c =
    let a = c.args in
    let r = c.requires in
    supplies a.store.now a.buf.now a.out.now a.inn.now r.s_value r.found_at c.load-place.ensures r.no_slot_value r.buffer_size_in_bounds (c.if-out-fetched_length.false ∙ c.fetched_length.ensures)
    (c.if-inn-fetched_length.false ∙ c.fetched_length-else-out-fetched_length.ensures) c.in-Some.ensures c.in-Some-part_at.ensures c.bring.ensures
