-- Document 02, job 8: "The line has at most 32 moves", two of each command; so one that joins it finds a place.
-- Assumes nothing.
use mathlib.Core.Path.{◌≡◌, refl, sym, ◌∙◌, subst}
use mathlib.Core.Bool.{Bool, true, false, cond, not, ◌||◌, true≢false}
use mathlib.Core.List.{List, [], ◌∷◌, ◌++◌}
use mathlib.Core.Option.{Option, none, some}
use Prim.Native.Nat.{ℕ, suc, ◌+◌, ◌≤◌}
use native.Mathlib.Omega.{arith}
use lib.Dec.{eqb}
use lib.ListN.{length, length-append}
use borrow.Author.Tests.{eqb-true, lt-ltb}
use Rattle.srp.specs.Limits.{most_buffers, most_moves}
use Rattle.srp.specs.Lists.{find, change, without, is_some}
use Rattle.srp.specs.Credit.{Held, on_side, has_tag, place}
use Rattle.srp.specs.Line.{same_place_lem, in_line, Once, Lined, more_in, joins, put_back}
use Rattle.srp.specs.declared.Direction.{Direction}
use Rattle.srp.specs.declared.Direction.TheVariants.{Out, In}
use Rattle.srp.specs.declared.Place.{Place}
use Rattle.srp.proofs.ListLaws.{length_change}
use Rattle.srp.proofs.FieldLaws.{both}
use Rattle.srp.proofs.Places.{place_self, in_without, once_without}
use Rattle.srp.proofs.Lines.{lined_end}

abbrev one : Bool → ℕ
one true = 1
one false = 0

abbrev of_tag : ℕ → Place → Bool
of_tag n x = eqb x.tag n

-- of a tag it has at most the two directions
two_of_a_tag : (n : ℕ) (l : List Place) → Once l → length l ≤ length (without (of_tag n) l) + one (in_line (place n Out) l) + one (in_line (place n In) l)
two_of_a_tag n [] o = omega arith
two_of_a_tag n (x ∷ l) o = go x.direction refl (eqb x.tag n) refl (two_of_a_tag n l o.1)
  where
    bigger : (a b : Bool) → one b ≤ one (a || b)
    bigger true true = omega arith
    bigger true false = omega arith
    bigger false b = omega arith

    go : (d : Direction) → x.direction ≡ d → (b : Bool) → eqb x.tag n ≡ b
        → length l ≤ length (without (of_tag n) l) + one (in_line (place n Out) l) + one (in_line (place n In) l)
        → suc (length l) ≤ length (cond b (without (of_tag n) l) (x ∷ without (of_tag n) l)) + one (same_place_lem (place n Out) x || in_line (place n Out) l) + one (same_place_lem (place n In) x || in_line (place n In) l)
    go d q false e ih =
        omega (arith, ih, bigger (same_place_lem (place n Out) x) (in_line (place n Out) l), bigger (same_place_lem (place n In) x) (in_line (place n In) l))
    go Out q true e ih =
        let t = eqb-true x.tag n e in
        let p : x ≡ place n Out = λ i. record { tag = t i; direction = q i } in
        let u : in_line (place n Out) l ≡ false = subst (λ (y : Place). in_line y l ≡ false) p o.0 in
        let v : same_place_lem (place n Out) x ≡ true = subst (λ (y : Place). same_place_lem (place n Out) y ≡ true) (sym p) (place_self (place n Out)) in
        rw (u, v) (omega (arith, rw u at ih, bigger (same_place_lem (place n In) x) (in_line (place n In) l)))
    go In q true e ih =
        let t = eqb-true x.tag n e in
        let p : x ≡ place n In = λ i. record { tag = t i; direction = q i } in
        let u : in_line (place n In) l ≡ false = subst (λ (y : Place). in_line y l ≡ false) p o.0 in
        let v : same_place_lem (place n In) x ≡ true = subst (λ (y : Place). same_place_lem (place n In) y ≡ true) (sym p) (place_self (place n In)) in
        rw (u, v) (omega (arith, rw u at ih, bigger (same_place_lem (place n Out) x) (in_line (place n Out) l)))

at_most_one : (b : Bool) → one b ≤ 1
at_most_one true = omega arith
at_most_one false = omega arith

-- a line of moves of these commands has at most two for each
two_each : {S : Type 0} (ts : List (Held S)) (l : List Place) → Once l → ((x : Place) → in_line x l ≡ true → is_some (find (has_tag x.tag) ts) ≡ true) → length l ≤ length ts + length ts
two_each [] [] o h = omega arith
two_each [] (x ∷ l) o h = absurd (true≢false (sym (h x (rw (place_self x)))))
two_each (t ∷ ts) l o h =
    let n = t.request.tag in
    let l' = without (of_tag n) l in
    omega (arith, two_of_a_tag n l o, at_most_one (in_line (place n Out) l), at_most_one (in_line (place n In) l), two_each ts l' (once_without (of_tag n) l o) within)
  where
    within : (x : Place) → in_line x (without (of_tag t.request.tag) l) ≡ true → is_some (find (has_tag x.tag) ts) ≡ true
    within x e =
        let a = both (not (eqb x.tag t.request.tag)) (in_line x l) (sym (in_without (of_tag t.request.tag) x l) ∙ e) in
        go (eqb x.tag t.request.tag) a.0 (h x a.1)
      where
        go : (b : Bool) → not b ≡ true → is_some (cond b (some t) (find (has_tag x.tag) ts)) ≡ true → is_some (find (has_tag x.tag) ts) ≡ true
        go true z f = absurd (true≢false (sym z))
        go false z f = f

pub lined_short : {S : Type 0} (more : S → Bool) (ts : List (Held S)) (l : List Place) → Lined more ts l → length l ≤ length ts + length ts
lined_short more ts l r = two_each ts l r.once λ x e. go x (find (has_tag x.tag) ts) (sym (r.each x.tag x.direction) ∙ e)
  where
    go : (x : Place) (o : Option (Held _)) → more_in more x.direction o ≡ true → is_some o ≡ true
    go x none e = absurd (true≢false (sym e))
    go x (some c) e = refl

-- ── a move joins it

module _ {S : Type 0} (more : S → Bool) (tag : ℕ) (d : Direction) (g : S → S) (ts : List (Held S)) (few : length ts ≤ most_buffers) (l : List Place) (r : Lined more ts l) (e : in_line (place tag d) l ≡ false) where
  abbrev ts' : List (Held S)
  ts' = change (has_tag tag) (on_side d g) ts

  abbrev left : Bool
  left = more_in more d (find (has_tag tag) ts')

  -- of at most 16 commands the line is not full when a move that is not in it joins
  pub joins_end : joins left (place tag d) l ≡ put_back left (place tag d) l
  joins_end = go left (lined_end more tag d g ts l r e)
    where
      go : (b : Bool) → Lined more ts' (put_back b (place tag d) l) → joins b (place tag d) l ≡ put_back b (place tag d) l
      go true k =
          let short : length l + 1 ≤ most_moves =
          omega (arith, few, length_change (has_tag tag) (on_side d g) ts, length-append l (place tag d ∷ []), lined_short more ts' (l ++ (place tag d ∷ [])) k) in
          rw (lt-ltb (length l) most_moves (omega (arith, short)))
      go false k = refl

  pub lined_join : Lined more ts' (joins left (place tag d) l)
  lined_join = subst (Lined more ts') (sym joins_end) (lined_end more tag d g ts l r e)
