-- A mask and a shift are the definition's bit range.
-- Assumes nothing.
use mathlib.Core.Path.{◌≡◌, sym, ap, ◌∙◌}
use Prim.Native.Nat.{ℕ, ◌+◌, ◌-◌, ◌*◌, ◌/◌, ◌%◌, ◌^◌, ◌≤◌, ◌<◌}
use native.Mathlib.Nat.{add_comm, one-mul, mod-lt, mod-le, mod-eq_of_lt, pow-le-pow_right, mul_assoc, add-mul, div-mul-le_self, mul-lt-mul_of_pos_right}
use native.Mathlib.Omega.{arith}
use lib.Bits.{bit_and, bit_or, and_mask, or_lt, and_le_l, or_shifted}
use lib.Pow.{pow-add, pow_pos}
use Rattle.srp.specs.Bytes.{replaced}

-- 2^k at 32 bits, for k up to 8
pub small : (k : ℕ) → k ≤ 8 → 2 ^ k ≤ 256
small k h = pow-le-pow_right {n = 2} (omega arith) h

pub one_shifted : (k : ℕ) → k ≤ 8 → 1 * 2 ^ k % 4294967296 ≡ 2 ^ k
one_shifted k h = rw (one-mul (2 ^ k)) (mod-eq_of_lt (omega (arith, small k h)))

module _ (low count : ℕ) (inside : low + count ≤ 8) where
  -- reading
  pub masked : (b : ℕ) → bit_and (b / 2 ^ low) (1 * 2 ^ count % 4294967296 - 1) ≡ b / 2 ^ low % 2 ^ count
  masked b = rw (one_shifted count (omega arith)) (and_mask (b / 2 ^ low) count)

  pub masked_small : (b : ℕ) → bit_and (b / 2 ^ low) (1 * 2 ^ count % 4294967296 - 1) < 256
  masked_small b = rw (masked b) (omega (arith, mod-lt (b / 2 ^ low) (pow_pos count), small count (omega arith)))

  -- writing
  module _ (b v : ℕ) (byte : b < 256) (below : v < 2 ^ count) where
    abbrev end : ℕ
    end = 2 ^ (low + count)

    end_small : end ≤ 256
    end_small = small (low + count) inside

    high_fits : b / end * end < 256
    high_fits = omega (arith, div-mul-le_self b end)

    middle : v * 2 ^ low < end
    middle = rw (add_comm low count, pow-add 2 count low) (mul-lt-mul_of_pos_right below (pow_pos low))

    pub joined : bit_or (bit_or (b / end * end % 4294967296) (v * 2 ^ low % 4294967296)) (bit_and b (1 * 2 ^ low % 4294967296 - 1)) ≡ replaced low count v b
    joined =
        let e : end ≡ 2 ^ count * 2 ^ low = ap (λ (n : ℕ). 2 ^ n) (add_comm low count) ∙ pow-add 2 count low in
        let f : b / end * end + v * 2 ^ low ≡ (b / end * 2 ^ count + v) * 2 ^ low =
        ap (λ (n : ℕ). b / end * n + v * 2 ^ low) e ∙ ap (λ (n : ℕ). n + v * 2 ^ low) (sym (mul_assoc (b / end) (2 ^ count) (2 ^ low))) ∙ sym (add-mul (b / end * 2 ^ count) v (2 ^ low)) in
        rw (
          mod-eq_of_lt {n = b / end * end} {m = 4294967296} (omega (arith, high_fits)),
          mod-eq_of_lt {n = v * 2 ^ low} {m = 4294967296} (omega (arith, middle, end_small)),
          or_shifted (b / end) (low + count) (v * 2 ^ low) middle,
          one_shifted low (omega arith),
          and_mask b low,
          f,
          or_shifted (b / end * 2 ^ count + v) low (b % 2 ^ low) (mod-lt b (pow_pos low)),
        )

    pub joined_small : bit_or (bit_or (b / end * end % 4294967296) (v * 2 ^ low % 4294967296)) (bit_and b (1 * 2 ^ low % 4294967296 - 1)) < 256
    joined_small =
        let x : b / end * end % 4294967296 < 256 = omega (arith, high_fits, mod-le (b / end * end) 4294967296) in
        let y : v * 2 ^ low % 4294967296 < 256 = omega (arith, middle, end_small, mod-le (v * 2 ^ low) 4294967296) in
        let z : bit_and b (1 * 2 ^ low % 4294967296 - 1) < 256 = omega (arith, and_le_l b (1 * 2 ^ low % 4294967296 - 1)) in
        or_lt 8 _ _ (or_lt 8 _ _ x y) z
