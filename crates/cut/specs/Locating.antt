-- Document 02, job 3: the search for the segment that holds an offset, and what it finds. The laws are proofs/Locating.antt.
use Rattle.std.specs.Prelude.{◌≡◌, ℕ, zero, suc, ◌+◌, ◌-◌, ◌<◌, ◌≤◌, min, cond, ◌↔◌, List, length, take, nat_lt}
use Rattle.std.specs.Prelude.{Option as Answered, Some, None}
use Rattle.std.proofs.Math.Option.{Option, none, some, map}
use Rattle.std.proofs.Math.ListN.{get_elem?}
use Rattle.srp.specs.Descriptors.{Segment, sum_of}
use Rattle.srp.specs.Cutting.{Rule, piece, next}
use Rattle.srp.specs.declared.Piece.{Piece}
use Rattle.cut.specs.declared.locate.Location.{Location}

-- what a search answers: none where no segment is found
abbrev pub Located : Type 0
Located = Answered Location

-- "the sum of the earlier lengths": of the segments before the one with this index
abbrev pub earlier_of : ℕ → List Segment → ℕ
earlier_of i ss = sum_of (take i ss)

-- the length of the segment with this index, 0 where there is none
abbrev pub length_at : ℕ → List Segment → ℕ
length_at i ss = elim (get_elem? ss i) [ none ↦ 0 | some s ↦ s.len ]

-- what is said of the segment with this index
abbrev pub location : ℕ → List Segment → Location
location i ss = record { index = i; len = length_at i ss; earlier = earlier_of i ss }

-- the first of n segments, from index i on, with which the lengths pass the offset; each sum is taken anew
abbrev pub located_from : (n i offset : ℕ) → List Segment → Located
located_from zero i offset ss = None
located_from (suc n) i offset ss = cond (nat_lt offset (earlier_of i ss + length_at i ss)) (Some (location i ss)) (located_from n (suc i) offset ss)

-- "the segment that holds an offset": its index and length, with the sum of the earlier lengths; or that the offset is behind the last byte
abbrev pub located : ℕ → List Segment → Located
located offset ss = located_from (length ss) 0 offset ss

-- ── what is found

-- the segment with this index holds the offset: the earlier lengths do not pass it, and with its own they do
abbrev pub HoldsOffset : (offset i : ℕ) → List Segment → Type 0
HoldsOffset offset i ss = (earlier_of i ss ≤ offset) × (offset < earlier_of i ss + length_at i ss)

-- a segment found holds the offset, and with it come its length and the sum of the earlier ones; no other segment holds it, of length 0 or not;
-- none is found just where the offset is behind the last byte
pub record Finds (offset : ℕ) (ss : List Segment) : Type 0 where
  pub holds : (l : Location) → located offset ss ≡ Some l → HoldsOffset offset l.index ss × (l ≡ location l.index ss)
  pub only : (i : ℕ) → HoldsOffset offset i ss → located offset ss ≡ Some (location i ss)
  pub behind : (located offset ss ≡ None) ↔ (sum_of ss ≤ offset)

abbrev pub EachFound : Type 0
EachFound = (offset : ℕ) (ss : List Segment) → Finds offset ss

-- a segment found is one of n, the earlier lengths do not pass the offset, and with its own they do
abbrev pub Within : (n offset : ℕ) → Location → Type 0
Within n offset l = (l.index < n) × (l.earlier ≤ offset) × (offset < l.earlier + l.len)

-- ── the next piece stands there

-- the piece that starts `within` bytes inside a segment, where `left` bytes of the move are left
abbrev pub piece_in : Rule → (within left offset : ℕ) → Segment → Piece
piece_in rule within left offset s = piece (s.address + within) s.handle (rule (s.address + within) (min (s.len - within) left)) offset

-- the piece at `from` of the bytes up to `to`, in the segment found; none where none was
abbrev pub next_at : Rule → (from to : ℕ) → List Segment → Located → Option Piece
next_at rule from to ss (Some l) = map (piece_in rule (from - l.earlier) (to - from) from) (get_elem? ss l.index)
next_at rule from to ss None = none

-- where bytes of a move are left, and whatever the rule of a piece's length: the next piece is the one in the segment that holds its offset
abbrev pub NextStands : Type 0
NextStands = (rule : Rule) (from to : ℕ) (ss : List Segment) → from < to → next rule from to ss ≡ next_at rule from to ss (located from ss)
