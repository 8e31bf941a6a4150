-- The next piece: what is read of the segment that holds its offset, and none where there is no such segment; and the one with boundaries.
-- Assumes nothing.
use Rattle.std.proofs.Common.{◌≡◌, ℕ, ◌+◌, ◌-◌, ◌*◌, ◌/◌, ◌%◌, ◌^◌, ◌<◌, ◌≤◌, min, Bool, true, false, cond, ltb, List, [], ◌∷◌, length, sym, refl, ap, ◌∙◌, arith}
use mathlib.Core.Option.{Option, some}
use lib.ListN.{get_elem?}
use Rattle.srp.specs.Bytes.{bytes, get}
use Rattle.srp.specs.Descriptors.{Segment, segments_of}
use Rattle.srp.specs.Cutting.{Rule, longest_at_lem, up_to, piece, next_from, next, bad_boundary}
use Rattle.srp.specs.declared.Piece.{Piece}
use Rattle.std.specs.declared.option.Option.{Option as Answered}
use Rattle.std.specs.declared.option.Option.TheVariants.{None, Some}
use Rattle.cut.specs.Walk.{next_wrapped, ended}
use Rattle.cut.specs.Locating.{length_at, location, located, HoldsOffset, piece_in}
use Rattle.cut.specs.declared.locate.Location.{Location}
use Rattle.srp.proofs.Boundaries.{longest_alone, longest_least, longest_wraps}
use Rattle.srp.proofs.Segments.{segments_count}
use Rattle.cut.proofs.Segments.{segment_from, segment_in}
use Rattle.cut.proofs.Locating.{length_at_lem, holds_inside, each_found, none_past, next_stands}

-- ── the segment found, as its bytes say it

module _ (list : List ℕ) (from : ℕ) {l : Location} (e : located from (segments_of list) ≡ Some l) where
  abbrev this : Segment
  this = segment_from list (l.index * 16)

  holds : HoldsOffset from l.index (segments_of list)
  holds = ((each_found from (segments_of list)).holds l e).0

  is_location : l ≡ location l.index (segments_of list)
  is_location = ((each_found from (segments_of list)).holds l e).1

  own : l.len ≡ length_at l.index (segments_of list)
  own = ap (λ (x : Location). x.len) is_location

  pub inside : l.index < length list / 16
  inside = omega (arith, holds_inside from l.index (segments_of list) holds, segments_count (length list / 16) list)

  read : get_elem? (segments_of list) l.index ≡ some this
  read = segment_in list l.index inside

  long : l.len ≡ get (bytes (l.index * 16 + 12) 4) list
  long = own ∙ length_at_lem l.index (segments_of list) this read

-- ── the next piece

module _ (list : List ℕ) (most from to : ℕ) where
  abbrev is : Answered Piece → Type 0
  is o = o ≡ next_wrapped (next (up_to most 0) from to (segments_of list))

  pub empty : to ≤ from → is None
  empty h = ap next_wrapped (sym (none_past (up_to most 0) 0 from to (segments_of list) (omega arith)))

  pub behind : located from (segments_of list) ≡ None → is None
  behind e = ap next_wrapped (sym (none_past (up_to most 0) 0 from to (segments_of list) (omega (arith, (each_found from (segments_of list)).behind.0 e))))

  module _ {l : Location} (e : located from (segments_of list) ≡ Some l) (lt : from < to) where
    found : next (up_to most 0) from to (segments_of list) ≡ some (piece_in (up_to most 0) (from - l.earlier) (to - from) from (this list from e))
    found = next_stands (up_to most 0) from to (segments_of list) lt ∙ rw (e, read list from e)

    pub here : {a h m k : ℕ} → a ≡ get (bytes (l.index * 16 + 0) 8) list → h ≡ get (bytes (l.index * 16 + 8) 4) list
        → m ≡ min (l.len - (from - l.earlier)) (to - from) → k ≡ min most m → is (Some (piece ((a + (from - l.earlier)) % 2 ^ 64) h k from))
    here {a} {h} {m} ea eh em ek =
        let short = ek ∙ ap (λ (j : ℕ). min j m) (sym (longest_alone most (a + (from - l.earlier)))) in
        rw (short, ea, eh, em, long list from e) (ap next_wrapped (sym found))

-- ── the next piece with boundaries

-- it is the one without, ended at the next multiple: its address in 64 bits tells as much of a good Q
ended_from : (M Q o from to : ℕ) (ss : List Segment) → bad_boundary Q ≡ false
    → ended Q (next_wrapped (next_from (up_to M 0) o from to ss)) ≡ next_wrapped (next_from (up_to M Q) o from to ss)
ended_from M Q o from to [] good = refl
ended_from M Q o from to (s ∷ ss) good = go (ltb from n) (ended_from M Q (o + n) (from - n) (to - n) ss good)
  where
    n : ℕ
    n = min s.len to

    a : ℕ
    a = s.address + from

    k : ℕ
    k = n - from

    rest : Rule → Option Piece
    rest rule = next_from rule (o + n) (from - n) (to - n) ss

    same : longest_at_lem (min (longest_at_lem M 0 a) k) Q (a % 2 ^ 64) ≡ min (longest_at_lem M Q a) k
    same = longest_wraps (min (longest_at_lem M 0 a) k) Q a good ∙ longest_least (longest_at_lem M 0 a) Q a k ∙ ap (λ (m : ℕ). min (longest_at_lem m Q a) k) (longest_alone M a)

    go : (b : Bool) → ended Q (next_wrapped (rest (up_to M 0))) ≡ next_wrapped (rest (up_to M Q))
        → ended Q (next_wrapped (cond b (some (piece a s.handle (up_to M 0 a k) (o + from))) (rest (up_to M 0))))
        ≡ next_wrapped (cond b (some (piece a s.handle (up_to M Q a k) (o + from))) (rest (up_to M Q)))
    go true ih = ap (λ (l : ℕ). Some (piece (a % 2 ^ 64) s.handle l (o + from))) same
    go false ih = ih

pub ended_next : (M Q from to : ℕ) (ss : List Segment) → bad_boundary Q ≡ false → ended Q (next_wrapped (next (up_to M 0) from to ss)) ≡ next_wrapped (next (up_to M Q) from to ss)
ended_next M Q from to ss good = ended_from M Q 0 from to ss good
