-- Numbers in bytes, and bits in a byte: what is written is read.
-- Assumes nothing.
use mathlib.Core.Path.{◌≡◌, refl, sym, ap, ◌∙◌}
use mathlib.Core.Logic.{◌⊎◌, ⊎_elim}
use mathlib.Core.List.{List, [], ◌∷◌}
use Prim.Native.Nat.{ℕ, zero, suc, ◌+◌, ◌-◌, ◌*◌, ◌/◌, ◌%◌, ◌^◌, ◌≤◌, ◌<◌}
use native.Mathlib.Nat.{add_comm, add_assoc, pow-succ', one-le-pow, mod-lt, mod-eq_of_lt, mul-le-mul_right}
use native.Mathlib.Omega.{arith}
use lib.Arith.{digits_lt, mod-mul}
use lib.ListN.{length, take}
use lib.Pow as Pow
use lib.Pow.{pow-add, pow_pos, field, high, mod-mod-pow, shr-shr}
use Rattle.srp.specs.Bytes.{Bytes, number, bytes_of, replaced}

-- a number's lowest k bytes are k
pub length_bytes : (k v : ℕ) → length (bytes_of k v) ≡ k
length_bytes zero v = refl
length_bytes (suc k) v = ap suc (length_bytes k v)

-- a number's lowest k bytes are read as its remainder, behind the digits read before
pub number_bytes : (k acc v : ℕ) → number acc (bytes_of k v) ≡ acc * 256 ^ k + v % 256 ^ k
number_bytes zero acc v = omega arith
number_bytes (suc k) acc v =
    rw (number_bytes k (acc * 256 + v / 256 ^ k % 256) v, pow-succ' 256 k, mod-mul v {m = 256} (omega arith) (one-le-pow k 256 (omega arith))) (omega arith)

-- a number below 256^k is read back from its k bytes
pub number_read : (k v : ℕ) → v < 256 ^ k → number 0 (bytes_of k v) ≡ v
number_read k v h = rw (number_bytes k 0 v, mod-eq_of_lt h) (omega arith)

-- of bytes the first k are read as a number below 256^k, behind the digits read before
pub number_below : (k acc : ℕ) (l : List ℕ) → Bytes l → number acc (take k l) < (acc + 1) * 256 ^ k
number_below zero acc l a = omega arith
number_below (suc k) acc [] a = omega (arith, mul-le-mul_right (acc + 1) (one-le-pow (suc k) 256 (omega arith)))
number_below (suc k) acc (b ∷ l) a =
    rw (pow-succ' 256 k) (omega (arith, number_below k (acc * 256 + b) l a.1, mul-le-mul_right (256 ^ k) a.0))

-- ── a byte with other bits, `low` to `low + count`

module _ (low count v b : ℕ) (h : v < 2 ^ count) where
  abbrev new : ℕ
  new = replaced low count v b

  new_below : v * 2 ^ low + b % 2 ^ low < 2 ^ (low + count)
  new_below = rw (add_comm low count, pow-add 2 count low) (digits_lt h (mod-lt b (pow_pos low)))

  low_part : new % 2 ^ (low + count) ≡ v * 2 ^ low + b % 2 ^ low
  low_part = rw add_assoc (Pow.low (b / 2 ^ (low + count)) (low + count) new_below)

  high_part : new / 2 ^ (low + count) ≡ b / 2 ^ (low + count)
  high_part = rw add_assoc (high (b / 2 ^ (low + count)) (low + count) new_below)

  -- they are read back
  pub bits_read : new / 2 ^ low % 2 ^ count ≡ v
  bits_read = sym (field new count low) ∙ rw (add_comm count low, low_part) (high v low (mod-lt b (pow_pos low)))

  rest_part : new % 2 ^ low ≡ b % 2 ^ low
  rest_part = sym (mod-mod-pow new count low) ∙ rw (add_comm count low, low_part) (Pow.low v low (mod-lt b (pow_pos low)))

  -- bits below or above them are as they were
  pub bits_apart : (k d : ℕ) → (low + count ≤ k) ⊎ (k + d ≤ low) → new / 2 ^ k % 2 ^ d ≡ b / 2 ^ k % 2 ^ d
  bits_apart k d = ⊎_elim
      (λ q.
      let e : low + count + (k - (low + count)) ≡ k = omega arith in
      let p : (x : ℕ) → x / 2 ^ k ≡ x / 2 ^ (low + count) / 2 ^ (k - (low + count)) = λ x. rw e at (sym (shr-shr x (low + count) (k - (low + count)))) in
      rw (p new, high_part) (ap (λ (x : ℕ). x % 2 ^ d) (sym (p b))))
      (λ q.
      let e : low - (k + d) + (d + k) ≡ low = omega arith in
      let p : (x : ℕ) → x / 2 ^ k % 2 ^ d ≡ x % 2 ^ low % 2 ^ (d + k) / 2 ^ k = λ x. sym (field x d k) ∙ ap (λ (y : ℕ). y / 2 ^ k) (rw e at (sym (mod-mod-pow x (low - (k + d)) (d + k)))) in
      rw (p new, rest_part) (sym (p b)))
