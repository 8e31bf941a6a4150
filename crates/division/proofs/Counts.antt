-- How many numbers pass a test: of two tests, of sums, of pairs of digits.
-- Assumes nothing.
use mathlib.Core.Path.{◌≡◌, refl, sym, ap, ◌∙◌}
use mathlib.Core.Bool.{Bool, true, false, not, ◌&&◌}
use Prim.Native.Nat.{ℕ, zero, suc, ◌+◌, ◌*◌, ◌/◌, ◌%◌, ◌<◌}
use native.Mathlib.Nat.{add-suc, add_comm, add-mul, zero-mul}
use native.Mathlib.Omega.{arith}
use Rattle.srp.specs.Bytes.{bit}
use Rattle.division.specs.Dividing.{values, count}

-- two tests that agree below n
pub count_same : (p q : ℕ → Bool) (n : ℕ) → ((j : ℕ) → j < n → p j ≡ q j) → count p n ≡ count q n
unfolding count
count_same p q zero h = refl
count_same p q (suc n) h = rw (h n (omega arith), count_same p q n (λ j l. h j (omega arith)))

module _ (p : ℕ → Bool) where
  -- the numbers below m, and n more
  count_add : (m n : ℕ) → count p (m + n) ≡ count p m + count (λ j. p (m + j)) n
  unfolding count
  count_add m zero = let e : m + 0 ≡ m = omega arith in rw e (omega arith)
  count_add m (suc n) = rw (add-suc m n, count_add m n) (omega arith)

  -- those that fail it, and those that pass it
  pub count_rest : (n : ℕ) → count (λ j. not (p j)) n + count p n ≡ n
  unfolding count
  count_rest zero = refl
  count_rest (suc n) = go (p n) (count_rest n)
    where
      go : (b : Bool) → count (λ j. not (p j)) n + count p n ≡ n → bit (not b) + count (λ j. not (p j)) n + (bit b + count p n) ≡ suc n
      go true e = omega (arith, e)
      go false e = omega (arith, e)

count_none : (n : ℕ) → count (λ j. false) n ≡ 0
unfolding count
count_none zero = refl
count_none (suc n) = omega (arith, count_none n)

pub count_all : (n : ℕ) → count (λ j. true) n ≡ n
unfolding count
count_all zero = refl
count_all (suc n) = omega (arith, count_all n)

count_zero : (p : ℕ → Bool) → count p 0 ≡ 0
unfolding count
count_zero p = refl

count_suc : (p : ℕ → Bool) (n : ℕ) → count p (suc n) ≡ bit (p n) + count p n
unfolding count
count_suc p n = refl

-- a first digit that passes lets the second decide
count_under : (b : Bool) (q : ℕ → Bool) (n : ℕ) → count (λ j. b && q j) n ≡ bit b * count q n
count_under true q n = omega arith
count_under false q n = count_none n ∙ omega arith

-- n first digits, each with 16 second ones
module _ (p q : ℕ → Bool) where
  pairs : ℕ → Bool
  pairs b = p (b / 16) && q (b % 16)

  -- a first digit's pairs
  of_first : (n : ℕ) → count (λ j. pairs (n * 16 + j)) 16 ≡ bit (p n) * count q 16
  unfolding pairs
  of_first n = count_same (λ j. pairs (n * 16 + j)) (λ j. p n && q j) 16 digits ∙ count_under (p n) q 16
    where
      digits : (j : ℕ) → j < 16 → pairs (n * 16 + j) ≡ (p n && q j)
      digits j h =
          let d : (n * 16 + j) / 16 ≡ n = omega arith in
          let m : (n * 16 + j) % 16 ≡ j = omega arith in
          rw (d, m)

  all_pairs : (n : ℕ) → count pairs (n * 16) ≡ count p n * count q 16
  all_pairs zero = count_zero pairs ∙ sym (zero-mul (count q 16)) ∙ ap (λ (x : ℕ). x * count q 16) (sym (count_zero p))
  all_pairs (suc n) =
      let e : suc n * 16 ≡ n * 16 + 16 = omega arith in
      ap (count pairs) e
      ∙ count_add pairs (n * 16) 16
      ∙ ap (λ (x : ℕ). x + count (λ j. pairs (n * 16 + j)) 16) (all_pairs n)
      ∙ ap (λ (x : ℕ). count p n * count q 16 + x) (of_first n)
      ∙ add_comm (count p n * count q 16) (bit (p n) * count q 16)
      ∙ sym (add-mul (bit (p n)) (count p n) (count q 16))
      ∙ ap (λ (x : ℕ). x * count q 16) (sym (count_suc p n))

  -- 16 first digits and 16 second ones
  pub count_pairs : count (λ b. p (b / 16) && q (b % 16)) values ≡ count p 16 * count q 16
  unfolding pairs
  count_pairs = all_pairs 16
