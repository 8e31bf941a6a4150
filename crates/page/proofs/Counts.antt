-- A number in five columns: its digits behind spaces, from the last to the first.
-- Assumes nothing.
use mathlib.Core.Path.{◌≡◌, refl, sym, ap}
use mathlib.Core.Bool.{Bool, true, false, cond}
use mathlib.Core.List.{List, [], ◌∷◌, ◌++◌, append_assoc}
use Prim.Native.Nat.{ℕ, zero, suc, ◌+◌, ◌-◌, ◌/◌, ◌%◌, ◌≤◌}
use native.Mathlib.Omega.{arith}
use borrow.Author.Tests.{eq-eqb, ne_eqb, eqb-true, le-ltb, ltb-true, ltb-false}
use lib.Dec.{ltb, eqb}
use lib.ListN.{length, length-append}
use Rattle.srp.specs.Outside.{digits}
use Rattle.text.proofs.Digits.{digits_last, digits_more}
use Rattle.page.specs.Page.{spaces, aligned, count_text_lem, lead}

-- what stands before a number's last digit: digits behind spaces, or spaces alone
abbrev front : ℕ → ℕ → ℕ → List ℕ
front w k rest = cond (eqb rest 0) (spaces w) (aligned w (digits k rest))

spaces_more : (w : ℕ) → spaces (suc w) ≡ spaces w ++ (0x20 ∷ [])
spaces_more zero = refl
spaces_more (suc w) = ap (λ (l : List ℕ). 0x20 ∷ l) (spaces_more w)

-- one column more on the right
aligned_more : (w d : ℕ) (t : List ℕ) → aligned (suc w) (t ++ (d ∷ [])) ≡ aligned w t ++ (d ∷ [])
aligned_more w d t =
    let e : suc w - length (t ++ (d ∷ [])) ≡ w - length t = rw (length-append t (d ∷ [])) (omega arith) in
    rw e (sym (append_assoc (spaces (w - length t)) t (d ∷ [])))

-- the last digit
last : (w k n : ℕ) → aligned (suc w) (digits (suc k) n) ≡ front w k (n / 10) ++ ((48 + n % 10) ∷ [])
last w k n = go (ltb n 10) refl
  where
    go : (b : Bool) → ltb n 10 ≡ b → aligned (suc w) (digits (suc k) n) ≡ front w k (n / 10) ++ ((48 + n % 10) ∷ [])
    go true e =
        let h = ltb-true n 10 e in
        let m : n % 10 ≡ n = omega arith in
        let z : n / 10 ≡ 0 = omega arith in
        let o : suc w - 1 ≡ w = omega arith in
        rw (digits_last k n h, eq-eqb (n / 10) 0 z, m, o)
    go false e =
        let h = ltb-false n 10 e in
        rw (digits_more k n h, ne_eqb (n / 10) 0 (λ z. omega (arith, z))) (aligned_more w (48 + n % 10) (digits k (n / 10)))

-- one before it
before : (w k rest : ℕ) → front (suc w) (suc k) rest ≡ front w k (rest / 10) ++ (lead rest ∷ [])
before w k rest = go (eqb rest 0) refl
  where
    go : (b : Bool) → eqb rest 0 ≡ b → front (suc w) (suc k) rest ≡ front w k (rest / 10) ++ (lead rest ∷ [])
    go true e = let z : rest / 10 ≡ 0 = omega (arith, eqb-true rest 0 e) in rw (e, eq-eqb (rest / 10) 0 z) (spaces_more w)
    go false e = rw e (last w k rest)

-- at most five digits, each where it stands
pub five : (n : ℕ) → n ≤ 99999 → lead (n / 10000) ∷ lead (n / 1000) ∷ lead (n / 100) ∷ lead (n / 10) ∷ (48 + n % 10) ∷ [] ≡ count_text_lem n
five n h =
    let two : n / 10 / 10 ≡ n / 100 = omega arith in
    let three : n / 10 / 10 / 10 ≡ n / 1000 = omega arith in
    let four : n / 10 / 10 / 10 / 10 ≡ n / 10000 = omega arith in
    let none : n / 10 / 10 / 10 / 10 / 10 ≡ 0 = omega arith in
    sym
    (rw (
      le-ltb 99999 n h,
      last 4 19 n,
      before 3 18 (n / 10),
      before 2 17 (n / 10 / 10),
      before 1 16 (n / 10 / 10 / 10),
      before 0 15 (n / 10 / 10 / 10 / 10),
      eq-eqb (n / 10 / 10 / 10 / 10 / 10) 0 none,
      four,
      three,
      two,
    ))
