-- Document 02, job 8: places in a line, and lists of places.
-- Assumes nothing.
use mathlib.Core.Path.{◌≡◌, refl, ap, sym, ◌∙◌}
use mathlib.Core.Bool.{Bool, true, false, cond, not, ◌&&◌, ◌||◌, true≢false, or-false}
use mathlib.Core.List.{List, [], ◌∷◌, ◌++◌}
use lib.Dec.{eqb}
use borrow.Author.Tests.{eqb-true, eq-eqb}
use Rattle.srp.specs.Lists.{without}
use Rattle.srp.specs.Line.{same_direction_lem, same_place_lem, in_line, Once}
use Rattle.srp.specs.declared.Direction.{Direction}
use Rattle.srp.specs.declared.Direction.TheVariants.{Out, In}
use Rattle.srp.specs.declared.Place.{Place}
use Rattle.srp.proofs.FieldLaws.{both}
use Rattle.srp.proofs.Checks.{both_false}

-- ── places

same_direction : (d e : Direction) → same_direction_lem d e ≡ true → d ≡ e
same_direction Out Out h = refl
same_direction Out In h = absurd (true≢false (sym h))
same_direction In Out h = absurd (true≢false (sym h))
same_direction In In h = refl

direction_self : (d : Direction) → same_direction_lem d d ≡ true
direction_self Out = refl
direction_self In = refl

pub same_place : (x y : Place) → same_place_lem x y ≡ true → x ≡ y
same_place x y e =
    let a = both (eqb x.tag y.tag) (same_direction_lem x.direction y.direction) e in
    let t = eqb-true x.tag y.tag a.0 in
    let d = same_direction x.direction y.direction a.1 in
    λ i. record { tag = t i; direction = d i }

pub place_self : (x : Place) → same_place_lem x x ≡ true
place_self x = rw (eq-eqb x.tag x.tag refl, direction_self x.direction)

pub place_other : (x y : Place) → same_place_lem x y ≡ false → same_place_lem y x ≡ false
place_other x y e = go (same_place_lem y x) refl
  where
    go : (b : Bool) → same_place_lem y x ≡ b → same_place_lem y x ≡ false
    go true f = absurd (true≢false (sym (place_self x) ∙ ap (same_place_lem x) (sym (same_place y x f)) ∙ e))
    go false f = f

-- ── lists of places

or_assoc : (a b c : Bool) → (a || (b || c)) ≡ ((a || b) || c)
or_assoc true b c = refl
or_assoc false b c = refl

and-false : (a : Bool) → (a && false) ≡ false
and-false true = refl
and-false false = refl

pub in_snoc : (y x : Place) (l : List Place) → in_line y (l ++ (x ∷ [])) ≡ (in_line y l || same_place_lem y x)
in_snoc y x [] = or-false (same_place_lem y x)
in_snoc y x (z ∷ l) = rw (in_snoc y x l) (or_assoc (same_place_lem y z) (in_line y l) (same_place_lem y x))

pub in_without : (P : Place → Bool) (y : Place) (l : List Place) → in_line y (without P l) ≡ (not (P y) && in_line y l)
in_without P y [] = sym (and-false (not (P y)))
in_without P y (z ∷ l) = go (same_place_lem y z) refl (P z) refl (in_without P y l)
  where
    go : (a : Bool) → same_place_lem y z ≡ a → (b : Bool) → P z ≡ b → in_line y (without P l) ≡ (not (P y) && in_line y l)
        → in_line y (cond b (without P l) (z ∷ without P l)) ≡ (not (P y) && (a || in_line y l))
    go true s true e ih = let q : P y ≡ true = ap P (same_place y z s) ∙ e in ih ∙ rw q
    go true s false e ih = let q : P y ≡ false = ap P (same_place y z s) ∙ e in rw (s, q)
    go false s true e ih = ih
    go false s false e ih = rw s ih

pub once_snoc : (x : Place) (l : List Place) → Once l → in_line x l ≡ false → Once (l ++ (x ∷ []))
once_snoc x [] o e = (refl, tt)
once_snoc x (y ∷ l) o e =
    let a = both_false (same_place_lem x y) (in_line x l) e in
    (in_snoc y x l ∙ rw o.0 (place_other x y a.0), once_snoc x l o.1 a.1)

pub once_without : (P : Place → Bool) (l : List Place) → Once l → Once (without P l)
once_without P [] o = tt
once_without P (x ∷ l) o = go (P x) (once_without P l o.1) (in_without P x l ∙ rw o.0 (and-false (not (P x))))
  where
    go : (b : Bool) → Once (without P l) → in_line x (without P l) ≡ false → Once (cond b (without P l) (x ∷ without P l))
    go true r e = r
    go false r e = (e, r)
