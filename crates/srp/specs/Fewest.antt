-- Document 02, jobs 4 and 6: a move's operations are as few as can be, and how many there are at most. The laws are
-- proofs/Fewest.antt, proofs/Rivals.antt and proofs/Bound.antt.
use Rattle.std.specs.Prelude.{◌≡◌, cond, List, [], ◌∷◌, ℕ, suc, ◌+◌, ◌-◌, ◌/◌, ◌%◌, ◌≤◌, min, max, ltb, eqb, length, take, drop}
use Rattle.srp.specs.Lists.{All}
use Rattle.srp.specs.Descriptors.{Segment, sum_of}
use Rattle.srp.specs.Cutting.{bytes_in, cuts_of}
use Rattle.srp.specs.Moves.{CrossesNone, InSegments, Consecutive, bytes_of_segments, bytes_of_pieces}
use Rattle.srp.specs.Credit.{rule_of}
use Rattle.srp.specs.declared.Terms.{Terms}
use Rattle.srp.specs.declared.Piece.{Piece}

-- ── "every other list of operations that covers the same bytes in order, each inside one segment and at most M long"

-- "at most M long", with the login's M; "the rival lists in Job 4 obey Q too"
abbrev pub Allowed : Terms → Piece → Type 0
Allowed T p = (p.len ≤ T.maximum) × CrossesNone T.boundary p

-- such a list for the bytes from `from` up to `to`: one operation behind the other, each inside the segment where its offset says, of any length that is
-- allowed. One of no bytes is allowed too
pub record Rival (T : Terms) (from to : ℕ) (ss : List Segment) (ps : List Piece) : Type 0 where
  pub covers : from + bytes_in ps ≡ to
  pub in_order : Consecutive from ps
  pub inside : All (λ p. InSegments 0 p ss) ps
  pub allowed : All (Allowed T) ps

-- it has the move's bytes, by handle and address, in order, once; a move ends by min(R, B), so by B
abbrev pub RivalsCover : Type 0
RivalsCover = (T : Terms) (from to : ℕ) (ss : List Segment) (ps : List Piece)
    → to ≤ sum_of ss → Rival T from to ss ps → bytes_of_pieces ps ≡ drop from (take to (bytes_of_segments ss))

-- ── "at most (segments with a byte in the move) + (bytes of the move divided by M, rounded down)", and "one for each multiple of Q strictly inside a
-- segment's part of the move"

-- a segment's part of the bytes from `from` up to `to`, where o bytes come before the segment: the address of its first byte, and how many they are
abbrev pub part_address : (o from : ℕ) → Segment → ℕ
part_address o from s = s.address + (from - o)

abbrev pub part_length_lem : (o from to : ℕ) → Segment → ℕ
part_length_lem o from to s = min (o + s.len) to - max o from

-- the sum, over the segments, of what f says of such an address and length
abbrev pub over_parts : (f : ℕ → ℕ → ℕ) (o from to : ℕ) → List Segment → ℕ
over_parts f o from to [] = 0
over_parts f o from to (s ∷ ss) = f (part_address o from s) (part_length_lem o from to s) + over_parts f (o + s.len) from to ss

-- a part with a byte counts one
abbrev pub touches : (address n : ℕ) → ℕ
touches address n = cond (ltb 0 n) 1 0

abbrev pub touched : (o from to : ℕ) → List Segment → ℕ
touched o from to ss = over_parts touches o from to ss

-- how many multiples of Q are above an address and at most n behind it: all up to there, less those up to the address
abbrev pub multiples : (Q address n : ℕ) → ℕ
multiples Q address n = (address + n) / Q - address / Q

-- "strictly inside": neither at the part's first address nor where the part ends
abbrev pub multiples_inside : (Q address n : ℕ) → ℕ
multiples_inside Q address n = multiples Q address (n - 1)

abbrev pub crossed : (Q o from to : ℕ) → List Segment → ℕ
crossed Q o from to ss = over_parts (multiples_inside Q) o from to ss

-- ── the cuts of a move

-- n is their number; they are such a list, no such list has fewer, and n is within the bound
pub record Fewest (T : Terms) (from to : ℕ) (ss : List Segment) (n : ℕ) : Type 0 where
  pub counted : n ≡ length (cuts_of (rule_of T) from to ss)
  pub attained : Rival T from to ss (cuts_of (rule_of T) from to ss)
  pub least : (ps : List Piece) → Rival T from to ss ps → n ≤ length ps
  pub bound : n ≤ touched 0 from to ss + (to - from) / T.maximum + crossed T.boundary 0 from to ss

abbrev pub MovesFewest : Type 0
MovesFewest = (T : Terms) (from to : ℕ) (ss : List Segment) → 1 ≤ T.maximum → from ≤ to → to ≤ sum_of ss → Fewest T from to ss (length (cuts_of (rule_of T) from to ss))

-- a multiple of Q is counted where it stands, and nothing else is
abbrev pub CountsMultiples : Type 0
CountsMultiples = (Q address n : ℕ) → 1 ≤ Q → multiples Q address (suc n) ≡ multiples Q address n + cond (eqb ((address + suc n) % Q) 0) 1 0

-- no more segments have a byte in it than there are
abbrev pub FewTouched : Type 0
FewTouched = (o from to : ℕ) (ss : List Segment) → touched o from to ss ≤ length ss

-- and no more multiples are inside than there are segments with a byte in it and its bytes divided by Q; without boundaries there are none
abbrev pub FewCrossed : Type 0
FewCrossed = (Q from to : ℕ) (ss : List Segment) → crossed Q 0 from to ss ≤ cond (eqb Q 0) 0 (touched 0 from to ss + (to - from) / Q)
