-- The segment that holds an offset: what the search finds, and that the next piece stands there, whatever the rule of its length.
-- Assumes nothing.
use Rattle.std.proofs.Common.{◌≡◌, ℕ, zero, suc, ◌+◌, ◌-◌, ◌<◌, ◌≤◌, min, Bool, true, false, cond, ltb, List, [], ◌∷◌, length, refl, ap, ◌∙◌, subst, arith, ltb-false, ltb-true, le-ltb, lt-ltb}
use mathlib.Core.Option.{Option, none, some, map, none-ne-some, some-injective}
use lib.ListN.{get_elem?}
use Rattle.srp.specs.Descriptors.{Segment, sum_of}
use Rattle.srp.specs.Cutting.{Rule, next_from, next}
use Rattle.srp.proofs.CutLaws.{none_above}
use Rattle.cut.specs.Locating.{Located, earlier_of, length_at, location, located_from, located, HoldsOffset, EachFound, piece_in, next_at, NextStands}
use Rattle.cut.specs.declared.locate.Location.{Location}
use Rattle.std.specs.declared.option.Option.TheVariants.{None, Some}

-- ── the sums of the earlier lengths

-- the next one is a segment's length more
pub earlier_next : (i : ℕ) (ss : List Segment) → earlier_of (suc i) ss ≡ earlier_of i ss + length_at i ss
earlier_next zero [] = refl
earlier_next (suc i) [] = refl
earlier_next zero (s ∷ ss) = omega arith
earlier_next (suc i) (s ∷ ss) = omega (arith, earlier_next i ss)

-- of a segment that there is
pub length_at_lem : (i : ℕ) (ss : List Segment) (s : Segment) → get_elem? ss i ≡ some s → length_at i ss ≡ s.len
length_at_lem i ss s e = rw (length_at, e)

-- none falls
earlier_rises : (i j : ℕ) (ss : List Segment) → i ≤ j → earlier_of i ss ≤ earlier_of j ss
earlier_rises zero j ss h = omega arith
earlier_rises (suc i) zero ss h = omega arith
earlier_rises (suc i) (suc j) [] h = omega arith
earlier_rises (suc i) (suc j) (s ∷ ss) h = omega (arith, earlier_rises i j ss (omega arith))

-- the last one is B
earlier_all : (ss : List Segment) → earlier_of (length ss) ss ≡ sum_of ss
earlier_all [] = refl
earlier_all (s ∷ ss) = rw (earlier_all ss)

-- ── the segment that holds an offset

-- it is one of the segments
pub holds_inside : (offset i : ℕ) (ss : List Segment) → HoldsOffset offset i ss → i < length ss
holds_inside offset zero [] h = omega (arith, h)
holds_inside offset (suc i) [] h = omega (arith, h)
holds_inside offset zero (s ∷ ss) h = omega arith
holds_inside offset (suc i) (s ∷ ss) h = omega (arith, holds_inside (offset - s.len) i ss (omega (arith, h.0), omega (arith, h.1)))

module _ (offset : ℕ) (ss : List Segment) where
  -- by B the lengths have passed the offset
  passed : (i : ℕ) → HoldsOffset offset i ss → offset < sum_of ss
  passed i h = omega (arith, h.1, earlier_next i ss, earlier_rises (suc i) (length ss) ss (holds_inside offset i ss h), earlier_all ss)

  -- no later one holds it too
  not_later : (i j : ℕ) → HoldsOffset offset i ss → HoldsOffset offset j ss → j ≤ i
  not_later i j h k = go (ltb i j) refl
    where
      go : (b : Bool) → ltb i j ≡ b → j ≤ i
      go true e = omega (arith, h.1, k.0, earlier_next i ss, earlier_rises (suc i) j ss (omega (arith, ltb-true i j e)))
      go false e = ltb-false i j e

  -- ── the search

  -- what an answer says, once k segments were looked at
  abbrev Says : ℕ → Located → Type 0
  Says k (Some l) = HoldsOffset offset l.index ss × (l ≡ location l.index ss)
  Says k None = earlier_of k ss ≤ offset

  from_there : (n i k : ℕ) → n + i ≡ k → earlier_of i ss ≤ offset → Says k (located_from n i offset ss)
  from_there zero i k s h = let q : i ≡ k = omega arith in rw q at h
  from_there (suc n) i k s h = go (ltb offset (earlier_of i ss + length_at i ss)) refl (λ h'. from_there n (suc i) k (omega arith) h')
    where
      go : (b : Bool) → ltb offset (earlier_of i ss + length_at i ss) ≡ b → (earlier_of (suc i) ss ≤ offset → Says k (located_from n (suc i) offset ss))
          → Says k (cond b (Some (location i ss)) (located_from n (suc i) offset ss))
      go true t ih = ((h, ltb-true offset (earlier_of i ss + length_at i ss) t), refl)
      go false t ih = ih (omega (arith, earlier_next i ss, ltb-false offset (earlier_of i ss + length_at i ss) t))

  -- of the whole search
  said : (r : Located) → located offset ss ≡ r → Says (length ss) r
  said r e = subst (Says (length ss)) e (from_there (length ss) 0 (length ss) (omega arith) (omega arith))

  only_found : (i : ℕ) → HoldsOffset offset i ss → located offset ss ≡ Some (location i ss)
  only_found i h = go (located offset ss) refl
    where
      go : (r : Located) → located offset ss ≡ r → located offset ss ≡ Some (location i ss)
      go (Some l) e =
          let f = said (Some l) e in
          let same : l.index ≡ i = omega (arith, not_later i l.index h f.0, not_later l.index i f.0 h) in
          e ∙ ap Some (f.1 ∙ ap (λ (k : ℕ). location k ss) same)
      go None e = absurd (omega (arith, passed i h, said None e, earlier_all ss))

  none_found : sum_of ss ≤ offset → located offset ss ≡ None
  none_found h = go (located offset ss) refl
    where
      go : (r : Located) → located offset ss ≡ r → located offset ss ≡ None
      go (Some l) e = absurd (omega (arith, h, passed l.index (said (Some l) e).0))
      go None e = e

pub each_found : EachFound
each_found offset ss =
    record {
      holds = λ l e. said offset ss (Some l) e;
      only = only_found offset ss;
      behind = (λ e. omega (arith, said offset ss None e, earlier_all ss), none_found offset ss);
    }

-- ── the next piece stands there

-- n bytes further on in the segments
module _ (from to n : ℕ) (le : n ≤ from) where
  further_within : (earlier : ℕ) → from - n - earlier ≡ from - (n + earlier)
  further_within earlier = omega arith

  further_offset : (o : ℕ) → o + n + (from - n) ≡ o + from
  further_offset o = omega arith

  further_left : from < to → to - n - (from - n) ≡ to - from
  further_left lt = omega arith

  further_whole : from < to → min n to ≡ n
  further_whole lt = omega arith

module _ (rule : Rule) where
  -- where o bytes came before the segments
  next_after : (o from to i : ℕ) (ss : List Segment) (s : Segment) → from < to → get_elem? ss i ≡ some s → HoldsOffset from i ss
      → next_from rule o from to ss ≡ some (piece_in rule (from - earlier_of i ss) (to - from) (o + from) s)
  next_after o from to i [] s lt e h = absurd (none-ne-some s e)
  next_after o from to zero (t ∷ ss) s lt e h =
      let same : t ≡ s = some-injective t s e in
      let a : from - 0 ≡ from = omega arith in
      let n : min t.len to - from ≡ min (t.len - from) (to - from) = omega (arith, h.1) in
      rw (← same, a, lt-ltb from (min t.len to) (omega (arith, h.1)), n)
  next_after o from to (suc i) (t ∷ ss) s lt e h =
      let n : ℕ = t.len in
      let le : n ≤ from = omega (arith, h.0) in
      let at_most : earlier_of i ss ≤ from - n = omega (arith, h.0) in
      let above : from - n < earlier_of i ss + length_at i ss = omega (arith, h.1) in
      let behind = next_after (o + n) (from - n) (to - n) i ss s (omega arith) e (at_most, above) in
      rw (further_whole from to n le lt, le-ltb from n le)
      (rw (further_within from to n le (earlier_of i ss), further_left from to n le lt, further_offset from to n le o) at behind)

  -- none behind the last byte, or where the bytes end
  pub none_past : (o from to : ℕ) (ss : List Segment) → min to (sum_of ss) ≤ from → next_from rule o from to ss ≡ none
  none_past o from to [] h = refl
  none_past o from to (s ∷ ss) h =
      let n : ℕ = min s.len to in
      rw (le-ltb from n (omega arith)) (none_past (o + n) (from - n) (to - n) ss (omega arith))

pub next_stands : NextStands
next_stands rule from to ss lt = go (located from ss) refl
  where
    there : (l : Location) → located from ss ≡ Some l → (v : Option Segment) → get_elem? ss l.index ≡ v → next rule from to ss ≡ map (piece_in rule (from - l.earlier) (to - from) from) v
    there l e none v = absurd (omega (arith, none_above ss l.index v, holds_inside from l.index ss (said from ss (Some l) e).0))
    there l e (some s) v =
        let f = said from ss (Some l) e in
        let z : 0 + from ≡ from = omega arith in
        rw (ap (λ (x : Location). x.earlier) f.1) (rw z at (next_after rule 0 from to l.index ss s lt v f.0))

    go : (r : Located) → located from ss ≡ r → next rule from to ss ≡ next_at rule from to ss r
    go (Some l) e = there l e (get_elem? ss l.index) refl
    go None e = none_past rule 0 from to ss (omega (arith, said from ss None e, earlier_all ss))
