-- A text that grows: by one byte, by other bytes, and by one thing behind the other.
-- Assumes nothing.
use mathlib.Core.Path.{◌≡◌, refl, sym, ap, subst, ◌∙◌}
use mathlib.Core.List.{List, [], ◌∷◌, ◌++◌, append_assoc}
use Prim.Native.Nat.{ℕ, ◌+◌, ◌-◌, ◌≤◌, ◌<◌}
use native.Mathlib.Numerals.{add-one}
use native.Mathlib.Omega.{arith}
use lib.ListN.{length, take, drop, set, length-append, length-drop, take-append-drop}
use lib.Seq.{take-suc-set, drop-set-lt, drop-drop}
use borrow.Rule.Slice.PartMut.{put_mid}
use Rattle.std.proofs.lemmas.List.{length-take}
use Rattle.std.proofs.lemmas.Slice.{take-put_mid, drop-put_mid}
use Rattle.text.specs.Appending.{Appends}

-- the text up to and with a byte that was stored behind it
pub take_stored : (text : List ℕ) (end v : ℕ) → end < length text → take (end + 1) (set text end v) ≡ take end text ++ (v ∷ [])
take_stored text end v h = rw (add-one end) (take-suc-set text end v h)

-- and what stands behind it
pub drop_stored : (text : List ℕ) (end v : ℕ) → drop (end + 1) (set text end v) ≡ drop (end + 1) text
drop_stored text end v = drop-set-lt (end + 1) text end v (omega arith)

-- two texts that are the same from i on are the same from j on
pub later : (a b : List ℕ) (i j : ℕ) → i ≤ j → drop i b ≡ drop i a → drop j b ≡ drop j a
later a b i j h e =
    let s : i + (j - i) ≡ j = omega arith in
    rw s at (sym (drop-drop (j - i) i b) ∙ ap (drop (j - i)) e ∙ drop-drop (j - i) i a)

-- one thing, and another behind it
pub then : {a b c x y : List ℕ} {i j k : ℕ} → Appends a i x b j → Appends b j y c k → Appends a i (x ++ y) c k
then {a} {b} {c} {x} {y} {i} {j} {k} p q =
    record {
      long = rw (length-append x y) (omega (arith, p.long, q.long));
      room = q.room;
      text = q.text ∙ ap (λ (l : List ℕ). l ++ y) p.text ∙ append_assoc (take i a) x y;
      rest = q.rest ∙ later a b j k (omega (arith, q.long)) p.rest;
    }

-- the same thing, by another name
pub spelt : {a b x y : List ℕ} {i j : ℕ} → x ≡ y → Appends a i x b j → Appends a i y b j
spelt {a} {b} {x} {y} {i} {j} e p = subst (λ (z : List ℕ). Appends a i z b j) e p

-- the whole text afterwards
pub whole : {a b x : List ℕ} {i j : ℕ} → Appends a i x b j → b ≡ take i a ++ (x ++ drop (i + length x) a)
whole {a} {b} {x} {i} {j} p =
    sym (take-append-drop j b)
    ∙ ap (λ (l : List ℕ). l ++ drop j b) p.text
    ∙ append_assoc (take i a) x (drop j b)
    ∙ ap (λ (l : List ℕ). take i a ++ (x ++ l)) (p.rest ∙ ap (λ (n : ℕ). drop n a) p.long)

-- other bytes, laid into the text behind `at`
pub copied : (text : List ℕ) (at : ℕ) (s : List ℕ) {new : List ℕ} → at + length s ≤ length text → new ≡ s
    → Appends text at s (put_mid at (at + length s - at) text new) (at + length s)
copied text at s {new} h e =
    let long : length new ≡ at + length s - at = rw e (omega arith) in
    record {
      long = refl;
      room = simp (length-append, length-drop, length-take) (omega (arith, long, h));
      text = take-put_mid at (at + length s - at) text new (at + length s) (rw e) (omega arith) ∙ rw e;
      rest = drop-put_mid at (at + length s - at) text new (at + length s) (omega arith) (omega arith) long;
    }
