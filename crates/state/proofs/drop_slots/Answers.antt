-- `state::drop_slots` meets its contract.
use mathlib.Core.Path.{sym, ◌∙◌}
use Rattle.state.proofs.Held.{drop_start, drop_ended, drop_kept, drop_unmoved, dropped}
use Rattle.state.proofs.drop_slots.Goals as goal
use Rattle.state.proofs.drop_slots.Goals.{then-not-ended, then-kept-i, else-kept-i, else-not-ended}

pub loop-i-init : goal.loop-i-init
loop-i-init c =
    drop_start _ _ _ _ c.get_head-h.ensures.held c.requires.first_bound c.requires.none_ends

pub loop-i-preserved : goal.loop-i-preserved
loop-i-preserved c =
    let D = c.loop-i.invariant in
    let on = c.loop-i-test.true in
    let r = c.load_request-r in
    elim c.if-not-ended.branch [
      | then-not-ended w ↦
          let stays = sym c.ended.ensures ∙ w.if-not-ended.true in
          rw (w.s-is, w.kept-is)
          (elim w.if-kept-i.branch [
            | then-kept-i v ↦ rw v.s-is (drop_kept _ _ _ _ _ _ D on _ r.ensures stays v.shift_slot.new.s v.shift_slot.ensures)
            | else-kept-i v ↦ rw v.s-is (drop_unmoved _ _ _ _ _ _ D on _ r.ensures stays v.if-kept-i.false)
          ])
      | else-not-ended w ↦
          rw (w.s-is, w.kept-is) (drop_ended _ _ _ _ _ _ D on _ r.ensures (sym c.ended.ensures ∙ w.if-not-ended.false))
    ]

pub returns : goal.returns
returns c =
    dropped _ _ _ _ _ _ c.loop-i.invariant c.loop-i-test.false _ c.get_head-h.ensures.whole c.set_counts.new.s c.set_counts.ensures
