use mathlib.Core.Path.{refl}
use native.Mathlib.Omega.{arith}
use Rattle.store.specs.Places.{trues}
use Rattle.store.proofs.Marks.{mark_more, mark_skip, mark_end}
use Rattle.store.proofs.places.Goals as goal
use Rattle.store.proofs.places.Goals.{then-i-but, else-i-but}

-- src/lib.rt:38:5
pub loop-i-init : goal.loop-i-init
unfolding trues
loop-i-init c =
    record {
      count = c.get_head-held.ensures.held;
      in_count = omega arith;
      long = refl;
      few = omega arith;
      fewer = λ q. let z : ⊥ = omega arith in absurd z;
      marks = λ j h. let z : ⊥ = omega arith in absurd z;
    }

-- src/lib.rt:38:5
pub loop-i-preserved : goal.loop-i-preserved
loop-i-preserved c =
    let K = c.loop-i.invariant in
    let on = c.loop-i-test.true in
    elim c.if-i-but.branch [
      | then-i-but w ↦ rw w.used-is (mark_more _ _ _ _ _ K on w.if-i-but.true w.load_place-k.result w.load_place-k.ensures.0 w.load_place-k.ensures.1)
      | else-i-but w ↦ rw w.used-is (mark_skip _ _ _ _ _ K on w.if-i-but.false)
    ]

-- src/lib.rt:30:1
pub returns : goal.returns
returns c =
    mark_end _ _ _ _ _ c.loop-i.invariant c.loop-i-test.false
