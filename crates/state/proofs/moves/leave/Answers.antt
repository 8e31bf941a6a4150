-- `state::leave` meets its contract.
use mathlib.Core.Path.{sym, ◌∙◌}
use Rattle.state.proofs.Parting.{part_left, part_kept, part_unmoved, parted}
use Rattle.state.proofs.moves.leave.Goals as goal
use Rattle.state.proofs.moves.leave.Goals.{then-not-move_leaves, then-kept-i, else-kept-i, else-not-move_leaves}

pub loop-i-preserved : goal.loop-i-preserved
loop-i-preserved c =
    let D = c.loop-i.invariant in
    let on = c.loop-i-test.true in
    let x = c.at-x in
    let t = c.move_leaves in
    elim c.if-not-move_leaves.branch [
      | then-not-move_leaves w ↦
          rw (w.s-is, w.kept-is)
          (elim w.if-kept-i.branch [
            | then-kept-i v ↦ rw v.s-is (part_kept _ _ _ _ _ _ D on _ x.ensures (λ st. sym w.if-not-move_leaves.true ∙ t.ensures st) v.put.new.s v.put.ensures)
            | else-kept-i v ↦ rw v.s-is (part_unmoved _ _ _ _ _ _ D on _ x.ensures (λ st. sym w.if-not-move_leaves.true ∙ t.ensures st) v.if-kept-i.false)
          ])
      | else-not-move_leaves w ↦
          rw (w.s-is, w.kept-is) (part_left _ _ _ _ _ _ D on _ x.ensures (λ st. sym w.if-not-move_leaves.false ∙ t.ensures st))
    ]

pub returns : goal.returns
returns c =
    parted _ _ _ _ _ _ c.loop-i.invariant c.loop-i-test.false c.set_len.new.s c.set_len.ensures
