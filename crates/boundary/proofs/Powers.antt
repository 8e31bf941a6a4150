-- A number's trailing zeros tell whether it is a power of two, and a power of two less 1 masks a remainder.
-- Assumes nothing.
use mathlib.Core.Path.{◌≡◌, refl, ap, sym, ◌∙◌}
use mathlib.Core.Logic.{⊎_elim}
use mathlib.Core.Bool.{Bool, true, false, not}
use Prim.Native.Nat.{ℕ, zero, suc, ◌-◌, ◌*◌, ◌/◌, ◌%◌, ◌^◌, ◌≤◌, ◌<◌, min}
use native.Mathlib.Nat.{one-mul, not-suc-le-zero, pow-suc, mul-mod_left, mul-div_cancel}
use native.Mathlib.Omega.{arith}
use lib.Bits.{bit_and, and_mask}
use lib.Count.{count_trailing_zeros}
use lib.Dec.{eqb}
use lib.Pow.{shl_exact}
use borrow.Author.Tests.{eqb-true, eqb-false}
use Rattle.srp.specs.Limits.{least_exponent, greatest_exponent}
use Rattle.srp.specs.Cutting.{longest_at_lem, bad_boundary, Power}
use Rattle.srp.proofs.Boundaries.{good_boundary, zero_good, power_good, longest_alone, longest_remainder}

-- the trailing zeros of a power of two are its exponent
trailing_power : (d k : ℕ) → k < d → count_trailing_zeros d (2 ^ k) ≡ k
unfolding count_trailing_zeros
trailing_power zero k h = absurd (not-suc-le-zero h)
trailing_power (suc d) zero h = refl
trailing_power (suc d) (suc k) h =
    let even : 2 ^ suc k % 2 ≡ 0 = ap (λ (x : ℕ). x % 2) (pow-suc 2 k) ∙ mul-mod_left (2 ^ k) 2 in
    let half : 2 ^ suc k / 2 ≡ 2 ^ k = ap (λ (x : ℕ). x / 2) (pow-suc 2 k) ∙ mul-div_cancel (2 ^ k) (omega arith) in
    rw (even, half) (ap suc (trailing_power d k (omega arith)))

-- ── which Q is bad

module _ (q : ℕ) where
  pub none : q ≡ 0 → false ≡ bad_boundary q
  none e = rw e (sym zero_good)

  module _ (ne : q ≡ 0 → ⊥) where
    abbrev exponent : ℕ
    exponent = count_trailing_zeros 64 q

    -- of a good one
    good : bad_boundary q ≡ false → (least_exponent ≤ exponent) × (exponent ≤ greatest_exponent) × (q ≡ 2 ^ exponent)
    good e =
        ⊎_elim (λ (z : q ≡ 0). absurd (ne z))
        (λ (r : Power q).
        let t : exponent ≡ r.0 = ap (count_trailing_zeros 64) r.3 ∙ trailing_power 64 r.0 (omega (arith, r.2)) in
        (omega (arith, r.1), omega (arith, r.2), r.3 ∙ ap (λ (k : ℕ). 2 ^ k) (sym t)))
        (good_boundary q e)

    -- where a good one would tell otherwise it is bad
    bad : (bad_boundary q ≡ false → ⊥) → true ≡ bad_boundary q
    bad f = go (bad_boundary q) refl
      where
        go : (b : Bool) → bad_boundary q ≡ b → true ≡ b
        go true e = refl
        go false e = absurd (f e)

    pub low : exponent < least_exponent → true ≡ bad_boundary q
    low h = bad λ e. omega (arith, (good e).0)

    pub high : greatest_exponent < exponent → true ≡ bad_boundary q
    high h = bad λ e. omega (arith, (good e).1)

    -- 1 shifted by so much, in 64 bits
    pub by_power : least_exponent ≤ exponent → exponent ≤ greatest_exponent → not (eqb q (1 * 2 ^ exponent % 2 ^ 64)) ≡ bad_boundary q
    by_power h l =
        let shifted : 1 * 2 ^ exponent % 2 ^ 64 ≡ 2 ^ exponent = shl_exact 1 exponent 64 (omega arith) (omega arith) ∙ one-mul (2 ^ exponent) in
        ap (λ (x : ℕ). not (eqb q x)) shifted ∙ go (eqb q (2 ^ exponent)) refl
      where
        go : (b : Bool) → eqb q (2 ^ exponent) ≡ b → not b ≡ bad_boundary q
        go true e = rw (eqb-true q (2 ^ exponent) e) (sym (power_good exponent h l))
        go false e = bad λ f. eqb-false q (2 ^ exponent) e (good f).2

-- ── the longest piece

pub alone : (M q a : ℕ) → q ≡ 0 → M ≡ longest_at_lem M q a
alone M q a e = rw e (sym (longest_alone M a))

-- what an address is above a multiple of a good Q
pub masked : (q a : ℕ) → bad_boundary q ≡ false → (q ≡ 0 → ⊥) → bit_and a (q - 1) ≡ a % q
masked q a e ne =
    ⊎_elim (λ (z : q ≡ 0). absurd (ne z))
    (λ (r : Power q). rw r.3 (and_mask a r.0))
    (good_boundary q e)

pub by_mask : (M q a : ℕ) {n : ℕ} → bad_boundary q ≡ false → (q ≡ 0 → ⊥) → n ≡ min M (q - bit_and a (q - 1)) → n ≡ longest_at_lem M q a
by_mask M q a e ne f = f ∙ ap (λ (x : ℕ). min M (q - x)) (masked q a e ne) ∙ sym (longest_remainder M q a (omega arith))
