-- The line of moves in the words behind the slots: a ring of 32 places, of which it is so many from the first on. Any words are a line.
use Rattle.std.specs.Prelude.{cond, List, [], ◌∷◌, ℕ, zero, suc, min, ◌+◌, ◌*◌, ◌%◌, take, drop, get_or}
use Rattle.srp.specs.Limits.{most_moves}
use Rattle.srp.specs.Credit.{place}
use Rattle.srp.specs.declared.Direction.{Direction}
use Rattle.srp.specs.declared.Direction.TheVariants.{Out, In}
use Rattle.srp.specs.declared.Place.{Place}
use Rattle.words.specs.Sizes.{line_at, ring_at}
use Rattle.words.specs.Slots.{on}

-- ── of the line's words r: the first place, how many are in the line, and the places

abbrev pub first_in : List ℕ → ℕ
first_in r = get_or r 0 0 % most_moves

abbrev pub count_in : List ℕ → ℕ
count_in r = min (get_or r 1 0) most_moves

abbrev pub direction_in : ℕ → Direction
direction_in word = cond (on word) In Out

abbrev pub place_in : List ℕ → ℕ → Place
place_in r k = place (get_or r (ring_at + 2 * k) 0) (direction_in (get_or r (ring_at + 2 * k + 1) 0))

-- n places from place k on; behind the last comes place 0
unfoldable pub ring_from : ℕ → ℕ → List ℕ → List Place
ring_from zero k r = []
ring_from (suc n) k r = place_in r (k % most_moves) ∷ ring_from n (k + 1) r

-- ── of a port's words

abbrev pub behind : List ℕ → List ℕ
behind l = drop line_at l

-- how many moves are in the line; all places, from the line's first on; and the line
abbrev pub count : List ℕ → ℕ
count l = count_in (behind l)

abbrev pub ring : List ℕ → List Place
ring l = ring_from most_moves (first_in (behind l)) (behind l)

abbrev pub line : List ℕ → List Place
line l = take (count l) (ring l)
