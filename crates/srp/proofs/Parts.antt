-- Sums over the segments' parts of a move: counted on from segment to segment, as the cuts are made, they are those of specs/Fewest.antt. Where of each part K times
-- one count is at most K times another and the part's bytes, the one count of the whole move is at most the other and its bytes divided by K.
-- Assumes nothing.
use mathlib.Core.Path.{◌≡◌, refl, ap, sym, ◌∙◌}
use mathlib.Core.Bool.{Bool, true, false}
use mathlib.Core.List.{List, [], ◌∷◌}
use Prim.Native.Nat.{ℕ, ◌+◌, ◌-◌, ◌*◌, ◌/◌, ◌≤◌, min, max}
use native.Mathlib.Nat.{add-mul, zero-mul, le-div_iff_mul-le}
use native.Mathlib.Omega.{arith}
use lib.Dec.{ltb, leb}
use borrow.Author.Tests.{ltb-true, ltb-false, leb-true, leb-false}
use Rattle.srp.specs.Descriptors.{Segment}
use Rattle.srp.specs.Fewest.{part_length_lem, over_parts}

-- they are counted from the first segment on as the cuts are made: f of the first address and the length of each segment's part
abbrev pub in_parts : (f : ℕ → ℕ → ℕ) (from to : ℕ) → List Segment → ℕ
in_parts f from to [] = 0
in_parts f from to (s ∷ ss) =
    let n : ℕ = min s.len to in
    f (s.address + from) (n - from) + in_parts f (from - n) (to - n) ss

-- a part of no bytes counts nothing
abbrev pub Counts : (ℕ → ℕ → ℕ) → Type 0
Counts f = (a : ℕ) → f a 0 ≡ 0

-- places counted from the segment's first byte and from the buffer's
passed_over : (o k n to : ℕ) → n ≤ to - o → k - o - min n (to - o) ≡ k - (o + n)
passed_over o k n to h = let e : min n (to - o) ≡ n = omega arith in rw e (omega arith)

ends : (o n to : ℕ) → min n (to - o) ≡ min (o + n) to - o
ends o n to = omega arith

starts : (o from : ℕ) → from - o ≡ max o from - o
starts o from = omega arith

less : (o x y : ℕ) → o ≤ y → x - y ≡ x - o - (y - o)
less o x y h = omega arith

module _ (f : ℕ → ℕ → ℕ) (counts : Counts f) where
  none_in : (from : ℕ) (ss : List Segment) → in_parts f from 0 ss ≡ 0
  none_in from [] = refl
  none_in from (s ∷ ss) =
      let n : min s.len 0 ≡ 0 = omega arith in
      let z : 0 - from ≡ 0 = omega arith in
      rw (n, z, counts (s.address + from), none_in (from - 0) ss)

  -- it is the same sum, each part by its own place
  same_parts : (o from to : ℕ) (ss : List Segment) → in_parts f (from - o) (to - o) ss ≡ over_parts f o from to ss
  same_parts o from to [] = refl
  same_parts o from to (s ∷ ss) = λ i. f (s.address + (from - o)) (first i) + behind (leb s.len (to - o)) refl (same_parts (o + s.len) from to ss) i
    where
      n : ℕ
      n = min s.len (to - o)

      first : n - (from - o) ≡ part_length_lem o from to s
      first = (λ i. ends o s.len to i - starts o from i) ∙ sym (less o (min (o + s.len) to) (max o from) (omega arith))

      behind : (b : Bool) → leb s.len (to - o) ≡ b → in_parts f (from - (o + s.len)) (to - (o + s.len)) ss ≡ over_parts f (o + s.len) from to ss
          → in_parts f (from - o - n) (to - o - n) ss ≡ over_parts f (o + s.len) from to ss
      behind true e ih =
          let le = leb-true s.len (to - o) e in
          rw (passed_over o from s.len to le, passed_over o to s.len to le) ih
      behind false e ih =
          let lt = leb-false s.len (to - o) e in
          let t : to - o - n ≡ 0 = omega arith in
          let t' : to - (o + s.len) ≡ 0 = omega arith in
          rw t (none_in (from - o - n) ss) ∙ sym (none_in (from - (o + s.len)) ss) ∙ (rw t' at ih)

-- of the whole move
pub whole_parts : (f : ℕ → ℕ → ℕ) → Counts f → (from to : ℕ) (ss : List Segment) → in_parts f from to ss ≡ over_parts f 0 from to ss
whole_parts f counts from to ss =
    let x : from - 0 ≡ from = omega arith in
    let y : to - 0 ≡ to = omega arith in
    rw (x, y) at (same_parts f counts 0 from to ss)

-- K times what f counts of a part is at most K times what g does, and its bytes
abbrev pub Within : (K : ℕ) (f g : ℕ → ℕ → ℕ) → Type 0
Within K f g = (a n : ℕ) → 1 ≤ n → f a n * K ≤ g a n * K + n

module _ (K : ℕ) (f g : ℕ → ℕ → ℕ) (counts : Counts f) (within : Within K f g) where
  -- so it is of the whole move
  parts_within : (from to : ℕ) (ss : List Segment) → in_parts f from to ss * K ≤ in_parts g from to ss * K + (to - from)
  parts_within from to [] = omega (arith, zero-mul K)
  parts_within from to (s ∷ ss) = go (ltb from n) refl (parts_within (from - n) (to - n) ss)
    where
      n : ℕ
      n = min s.len to

      a : ℕ
      a = s.address + from

      x : ℕ
      x = in_parts f (from - n) (to - n) ss

      y : ℕ
      y = in_parts g (from - n) (to - n) ss

      go : (b : Bool) → ltb from n ≡ b → x * K ≤ y * K + (to - n - (from - n)) → (f a (n - from) + x) * K ≤ (g a (n - from) + y) * K + (to - from)
      go true b ih =
          let lt = ltb-true from n b in
          omega (arith, add-mul (f a (n - from)) x K, add-mul (g a (n - from)) y K, within a (n - from) (omega arith))
      go false b ih =
          let le = ltb-false from n b in
          let none : n - from ≡ 0 = omega arith in
          let zero : f a (n - from) ≡ 0 = ap (f a) none ∙ counts a in
          omega (arith, add-mul (f a (n - from)) x K, add-mul (g a (n - from)) y K, ap (λ (k : ℕ). k * K) zero, zero-mul K)

  -- and divided by K
  pub parts_most : (from to : ℕ) (ss : List Segment) → 1 ≤ K → Counts g → over_parts f 0 from to ss ≤ over_parts g 0 from to ss + (to - from) / K
  parts_most from to ss k counts' =
      by (over_parts f 0 from to ss) (over_parts g 0 from to ss) (to - from)
      (rw (whole_parts f counts from to ss, whole_parts g counts' from to ss) at (parts_within from to ss))
    where
      by : (n t b : ℕ) → n * K ≤ t * K + b → n ≤ t + b / K
      by n t b h = go (ltb t n) refl
        where
          go : (c : Bool) → ltb t n ≡ c → n ≤ t + b / K
          go true c =
              let d = n - t in
              let e : n ≡ d + t = omega (arith, ltb-true t n c) in
              let l : d * K ≤ b = omega (arith, ap (λ (j : ℕ). j * K) e, add-mul d t K) in
              omega (arith, (le-div_iff_mul-le {k = K} {x = d} {y = b} k).1 l)
          go false c = omega (arith, ltb-false t n c)
