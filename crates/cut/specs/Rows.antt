-- Worked searches: the lengths of segments, an offset, and the segment that holds it. They guard `located`.
use Rattle.std.specs.Prelude.{◌≡◌, ℕ, List, [], ◌∷◌}
use Rattle.srp.specs.Lists.{All}
use Rattle.srp.specs.Descriptors.{Segment}
use Rattle.std.specs.Prelude.{Some, None}
use Rattle.cut.specs.Locating.{Located, located}

pub record Search : Type 0 where
  pub lengths : List ℕ
  pub offset : ℕ
  pub finds : Located

abbrev pub search_for : List ℕ → ℕ → Located → Search
search_for lengths offset finds = record { lengths = lengths; offset = offset; finds = finds }

-- an index, its length, and the sum of the earlier lengths
abbrev pub holder : ℕ → ℕ → ℕ → Located
holder index len earlier = Some (record { index = index; len = len; earlier = earlier })

abbrev pub searches : List Search
searches =
    -- the first and the last byte of each of three segments, and the byte behind them
    search_for (5 ∷ 3 ∷ 7 ∷ []) 0 (holder 0 5 0)
    ∷ search_for (5 ∷ 3 ∷ 7 ∷ []) 4 (holder 0 5 0)
    ∷ search_for (5 ∷ 3 ∷ 7 ∷ []) 5 (holder 1 3 5)
    ∷ search_for (5 ∷ 3 ∷ 7 ∷ []) 7 (holder 1 3 5)
    ∷ search_for (5 ∷ 3 ∷ 7 ∷ []) 8 (holder 2 7 8)
    ∷ search_for (5 ∷ 3 ∷ 7 ∷ []) 14 (holder 2 7 8)
    ∷ search_for (5 ∷ 3 ∷ 7 ∷ []) 15 None
    -- a segment of length 0 holds nothing and ends nothing: first, in the middle, last; no segment
    ∷ search_for (0 ∷ 5 ∷ []) 0 (holder 1 5 0)
    ∷ search_for (5 ∷ 0 ∷ 0 ∷ 3 ∷ []) 5 (holder 3 3 5)
    ∷ search_for (5 ∷ 0 ∷ []) 5 None
    ∷ search_for (0 ∷ 0 ∷ []) 0 None
    ∷ search_for [] 0 None
    -- lengths that pass 2^32 together
    ∷ search_for (4294967295 ∷ 4294967295 ∷ []) 4294967295 (holder 1 4294967295 4294967295)
    ∷ []

abbrev pub of_lengths : List ℕ → List Segment
of_lengths [] = []
of_lengths (n ∷ ns) = record { address = 0; handle = 0; len = n } ∷ of_lengths ns

abbrev pub EachSearch : Type 0
EachSearch = All (λ s. located s.offset (of_lengths s.lengths) ≡ s.finds) searches
