-- The sum of lengths, segment by segment, unless one passes 2^64.
-- Assumes nothing.
use Rattle.std.proofs.Common.{◌≡◌, ℕ, ◌+◌, ◌-◌, ◌*◌, ◌/◌, ◌^◌, ◌<◌, ◌≤◌, true, false, cond, not, leb, List, ◌∷◌, length, drop, sym, ◌∙◌, add_assoc, zero-add, arith}
use borrow.Author.Tests.{not-true, not-false}
use Rattle.srp.specs.Bytes.{bytes, get}
use Rattle.srp.specs.Descriptors.{Segment, segments_in, segments_of, sum_of, reachable}
use Rattle.cut.specs.Walk.{Total, total_of}
use Rattle.std.specs.declared.option.Option.TheVariants.{None, Some}
use Rattle.cut.proofs.Segments.{segment, turn}

-- the rest's sum, behind what was summed before, is the whole's
abbrev from : ℕ → List Segment → Total
from n ss = cond (reachable ss) (Some (n + sum_of ss)) None

-- i segments were summed, to n
pub record Summing (list : List ℕ) (i n : ℕ) : Type 0 where
  pub bounded : n ≤ 4294967295 * i
  pub same : from n (segments_in (length list / 16 - i) (drop (i * 16) list)) ≡ total_of (segments_of list)

pub start : (list : List ℕ) → Summing list 0 0
start list =
    let all : length list / 16 - 0 ≡ length list / 16 = omega arith in
    record { bounded = omega arith; same = rw (all, zero-add (sum_of (segments_of list))) }

module _ {list : List ℕ} {i n : ℕ} (w : Summing list i n) where
  abbrev left : ℕ
  left = length list / 16 - i

  module _ (more : i < length list / 16) {a l : ℕ} (ea : a ≡ get (bytes (i * 16 + 0) 8) list) (el : l ≡ get (bytes (i * 16 + 12) 4) list) where
    seen : from n (segments_in left (drop (i * 16) list)) ≡ from n (segment a (get (bytes (i * 16 + 8) 4) list) l ∷ segments_in (left - 1) (drop (i * 16 + 16) list))
    seen = rw (turn list (i * 16) left (omega arith), ea, el)

    pub stop : not (leb (a + l) (2 ^ 64)) ≡ true → None ≡ total_of (segments_of list)
    stop e = sym (seen ∙ rw (not-true (leb (a + l) (2 ^ 64)) e)) ∙ w.same

    pub on : not (leb (a + l) (2 ^ 64)) ≡ false → l < 2 ^ 32 → Summing list (i + 1) (n + l)
    on e small =
        let r : length list / 16 - (i + 1) ≡ left - 1 = omega arith in
        let q : (i + 1) * 16 ≡ i * 16 + 16 = omega arith in
        record {
          bounded = omega (arith, w.bounded);
          same = rw (r, q) (sym (seen ∙ rw (not-false (leb (a + l) (2 ^ 64)) e, add_assoc n l (sum_of (segments_in (left - 1) (drop (i * 16 + 16) list))))) ∙ w.same);
        }

  pub end : length list / 16 ≤ i → Some n ≡ total_of (segments_of list)
  end h = let z : length list / 16 - i ≡ 0 = omega arith in let a : n + 0 ≡ n = omega arith in rw (z, a) at w.same
