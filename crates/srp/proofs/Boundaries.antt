-- Document 02, job 6: the longest piece at an address has 1 to M bytes and crosses no multiple of Q, and a longer one is past M or crosses one. A good Q is 0 or a
-- power of two, and asks only for an address's lowest 64 bits.
-- Assumes nothing.
use mathlib.Core.Path.{◌≡◌, refl, ap, sym, ◌∙◌}
use mathlib.Core.Logic.{◌⊎◌, inl, inr, ⊎_elim}
use mathlib.Core.Bool.{Bool, true, false, cond, not, ◌||◌, true≢false}
use Prim.Native.Nat.{ℕ, zero, suc, ◌+◌, ◌-◌, ◌*◌, ◌/◌, ◌%◌, ◌^◌, ◌≤◌, ◌<◌, min}
use native.Mathlib.Nat.{add-mul, one-mul, mul-zero, mod-lt, div-add-mod', div-lt_iff_lt-mul, mul-le-mul_right}
use native.Mathlib.Omega.{arith}
use lib.Dec.{eqb, ltb}
use lib.Pow.{pow_pos, mod-mod-pow}
use borrow.Author.Tests.{eqb-true, eqb-false, eq-eqb, ne_eqb, ltb-true, ltb-false, not-false}
use Rattle.srp.specs.Limits.{least_exponent, greatest_exponent}
use Rattle.srp.specs.Cutting.{next_multiple, longest_at_lem, is_power, bad_boundary, Power, GoodBoundaries}
use Rattle.srp.specs.Moves.{CrossesNone}
use Rattle.srp.specs.declared.Piece.{Piece}

-- ── the next multiple

pub some_boundary : (Q : ℕ) → eqb Q 0 ≡ false → 1 ≤ Q
some_boundary Q e = omega (arith, eqb-false Q 0 e)

module _ (Q a : ℕ) (q : 1 ≤ Q) where
  -- how far it is from the address
  next_distance : a + (Q - a % Q) ≡ next_multiple Q a
  next_distance = omega (arith, add-mul (a / Q) 1 Q, one-mul Q, div-add-mod' a Q, mod-lt a {m = Q} q)

  next_above : a < next_multiple Q a
  next_above = omega (arith, next_distance, mod-lt a {m = Q} q)

  -- it is the first above the address
  next_first : (k : ℕ) → a < k * Q → next_multiple Q a ≤ k * Q
  next_first k h = mul-le-mul_right {m = a / Q + 1} {n = k} Q (omega (arith, (div-lt_iff_lt-mul {k = Q} {x = a} {y = k} q).1 h))

-- ── the longest piece at an address

module _ (M Q a : ℕ) where
  pub longest_some : 1 ≤ M → 1 ≤ longest_at_lem M Q a
  unfolding longest_at_lem
  longest_some m = go (eqb Q 0) refl
    where
      go : (b : Bool) → eqb Q 0 ≡ b → 1 ≤ cond b M (min M (next_multiple Q a - a))
      go true e = m
      go false e = omega (arith, next_above Q a (some_boundary Q e))

  pub longest_most : longest_at_lem M Q a ≤ M
  unfolding longest_at_lem
  longest_most = go (eqb Q 0)
    where
      go : (b : Bool) → cond b M (min M (next_multiple Q a - a)) ≤ M
      go true = omega arith
      go false = omega arith

  -- it is M long, or ends at the next multiple
  pub longest_ends : (longest_at_lem M Q a ≡ M) ⊎ ((1 ≤ Q) × (a + longest_at_lem M Q a ≡ next_multiple Q a))
  unfolding longest_at_lem
  longest_ends = go (eqb Q 0) refl (ltb (next_multiple Q a - a) M) refl
    where
      go : (b : Bool) → eqb Q 0 ≡ b → (c : Bool) → ltb (next_multiple Q a - a) M ≡ c
          → let k = cond b M (min M (next_multiple Q a - a)) in
          (k ≡ M) ⊎ ((1 ≤ Q) × (a + k ≡ next_multiple Q a))
      go true e c f = inl refl
      go false e true f =
          let q = some_boundary Q e in
          inr (q, omega (arith, ltb-true (next_multiple Q a - a) M f, next_above Q a q))
      go false e false f = inl (omega (arith, ltb-false (next_multiple Q a - a) M f))

-- by the address's remainder; and without boundaries
pub longest_remainder : (M Q a : ℕ) → 1 ≤ Q → longest_at_lem M Q a ≡ min M (Q - a % Q)
unfolding longest_at_lem
longest_remainder M Q a q =
    let away : next_multiple Q a - a ≡ Q - a % Q = omega (arith, next_distance Q a q) in
    rw (ne_eqb Q 0 (λ e. omega arith), away)

pub longest_alone : (M a : ℕ) → longest_at_lem M 0 a ≡ M
unfolding longest_at_lem
longest_alone M a = refl

-- the shorter of M and n may be taken before the multiple, or after it
pub longest_least : (M Q a n : ℕ) → longest_at_lem (min M n) Q a ≡ min (longest_at_lem M Q a) n
unfolding longest_at_lem
longest_least M Q a n = go (eqb Q 0) (next_multiple Q a - a)
  where
    go : (b : Bool) (d : ℕ) → cond b (min M n) (min (min M n) d) ≡ min (cond b M (min M d)) n
    go true d = refl
    go false d = omega arith

module _ (M Q : ℕ) (p : Piece) where
  -- a piece that is no longer crosses no multiple of Q
  pub longest_crosses_none : p.len ≤ longest_at_lem M Q p.address → CrossesNone Q p
  unfolding longest_at_lem
  longest_crosses_none h = go (eqb Q 0) refl h
    where
      a : ℕ
      a = p.address

      go : (b : Bool) → eqb Q 0 ≡ b → p.len ≤ cond b M (min M (next_multiple Q a - a)) → CrossesNone Q p
      go true e l k f = absurd (omega (arith, mul-zero k, ap (λ (q : ℕ). k * q) (eqb-true Q 0 e)))
      go false e l k f =
          let q = some_boundary Q e in
          omega (arith, next_first Q a q k f, next_above Q a q)

  -- and one that crosses none is no longer
  pub crosses_none_longest : p.len ≤ M → CrossesNone Q p → p.len ≤ longest_at_lem M Q p.address
  unfolding longest_at_lem
  crosses_none_longest h l = go (eqb Q 0) refl
    where
      a : ℕ
      a = p.address

      go : (b : Bool) → eqb Q 0 ≡ b → p.len ≤ cond b M (min M (next_multiple Q a - a))
      go true e = h
      go false e = let q = some_boundary Q e in omega (arith, l (a / Q + 1) (next_above Q a q))

-- without boundaries every piece crosses none
pub no_boundary : (p : Piece) → CrossesNone 0 p
no_boundary p k h = absurd (omega (arith, mul-zero k))

-- ── which Q is good

-- a test that the second of two makes true
or_second : (a b : Bool) → b ≡ true → (a || b) ≡ true
or_second true b e = refl
or_second false b e = e

-- one of these powers
power_of : (k n x : ℕ) → is_power k n x ≡ true → (j : ℕ) × (k ≤ j) × (j < k + n) × (x ≡ 2 ^ j)
power_of k zero x e = absurd (true≢false (sym e))
power_of k (suc n) x e = go (eqb x (2 ^ k)) refl e (λ f. power_of (suc k) n x f)
  where
    go : (b : Bool) → eqb x (2 ^ k) ≡ b → (b || is_power (suc k) n x) ≡ true
        → (is_power (suc k) n x ≡ true → (j : ℕ) × (suc k ≤ j) × (j < suc k + n) × (x ≡ 2 ^ j))
        → (j : ℕ) × (k ≤ j) × (j < k + suc n) × (x ≡ 2 ^ j)
    go true q f ih = (k, omega arith, omega arith, eqb-true x (2 ^ k) q)
    go false q f ih =
        let r = ih f in
        (r.0, omega (arith, r.1), omega (arith, r.2), r.3)

is_power_lem : (k n j : ℕ) → k ≤ j → j < k + n → is_power k n (2 ^ j) ≡ true
is_power_lem k zero j h l = absurd (omega arith)
is_power_lem k (suc n) j h l = go (ltb k j) refl (λ g. is_power_lem (suc k) n j g (omega arith))
  where
    go : (b : Bool) → ltb k j ≡ b → (suc k ≤ j → is_power (suc k) n (2 ^ j) ≡ true) → (eqb (2 ^ j) (2 ^ k) || is_power (suc k) n (2 ^ j)) ≡ true
    go true q ih = or_second (eqb (2 ^ j) (2 ^ k)) (is_power (suc k) n (2 ^ j)) (ih (ltb-true k j q))
    go false q ih =
        let same : j ≡ k = omega (arith, ltb-false k j q) in
        rw (eq-eqb (2 ^ j) (2 ^ k) (ap (λ (i : ℕ). 2 ^ i) same))

abbrev powers : ℕ
powers = suc greatest_exponent - least_exponent

pub zero_good : bad_boundary 0 ≡ false
unfolding bad_boundary
zero_good = refl

-- a good Q is 0 or such a power
pub good_boundary : (Q : ℕ) → bad_boundary Q ≡ false → (Q ≡ 0) ⊎ Power Q
unfolding bad_boundary
good_boundary Q e = go (eqb Q 0) refl (not-false _ e)
  where
    go : (b : Bool) → eqb Q 0 ≡ b → (b || is_power least_exponent powers Q) ≡ true → (Q ≡ 0) ⊎ Power Q
    go true q f = inl (eqb-true Q 0 q)
    go false q f = let r = power_of least_exponent powers Q f in inr (r.0, r.1, omega (arith, r.2), r.3)

-- and each of these is good
pub power_good : (k : ℕ) → least_exponent ≤ k → k ≤ greatest_exponent → bad_boundary (2 ^ k) ≡ false
unfolding bad_boundary
power_good k h l = ap not (or_second (eqb (2 ^ k) 0) (is_power least_exponent powers (2 ^ k)) (is_power_lem least_exponent powers k h (omega arith)))

pub good_boundaries : GoodBoundaries
good_boundaries Q = (good_boundary Q, λ x. ⊎_elim (λ (z : Q ≡ 0). rw z zero_good) (λ (r : Power Q). rw r.3 (power_good r.0 r.1 r.2)) x)

-- ── an address in 64 bits

-- a power of two up to 2^64 asks only for an address's lowest 64 bits
power_wraps : (k a : ℕ) → k ≤ 64 → a % 2 ^ 64 % 2 ^ k ≡ a % 2 ^ k
power_wraps k a h =
    let s : 64 ≡ 64 - k + k = omega arith in
    ap (λ (j : ℕ). a % 2 ^ j % 2 ^ k) s ∙ mod-mod-pow a (64 - k) k

-- so a good Q has the same longest piece at an address and at the same address in 64 bits
pub longest_wraps : (M Q a : ℕ) → bad_boundary Q ≡ false → longest_at_lem M Q (a % 2 ^ 64) ≡ longest_at_lem M Q a
longest_wraps M Q a e =
    ⊎_elim (λ (z : Q ≡ 0). rw (z, longest_alone M (a % 2 ^ 64), longest_alone M a))
    (λ (r : Power Q).
    let q : 1 ≤ Q = omega (arith, r.3, pow_pos r.0) in
    let same : a % 2 ^ 64 % Q ≡ a % Q = rw r.3 (power_wraps r.0 a (omega (arith, r.2))) in
    longest_remainder M Q (a % 2 ^ 64) q ∙ ap (λ (x : ℕ). min M (Q - x)) same ∙ sym (longest_remainder M Q a q))
    (good_boundary Q e)
