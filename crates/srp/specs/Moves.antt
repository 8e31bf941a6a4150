-- Document 02, jobs 1 and 6: what the cuts of a move are, and what h is. The laws are proofs/Moves.antt.
use Rattle.std.specs.Prelude.{◌≡◌, ◌⊎◌, false, List, [], ◌∷◌, ◌++◌, ℕ, zero, suc, ◌+◌, ◌-◌, ◌*◌, ◌≤◌, ◌<◌, min, take, drop}
use Rattle.std.proofs.Math.Option.{some}
use Rattle.std.proofs.Math.ListN.{get_elem?}
use Rattle.srp.specs.Lists.{All}
use Rattle.srp.specs.Descriptors.{Segment, sum_of}
use Rattle.srp.specs.Cutting.{Rule, up_to, bytes_in, highest, cuts_of, cuts, trimmed, next, bad_boundary}
use Rattle.srp.specs.Calls.{wrapped}
use Rattle.srp.specs.declared.Piece.{Piece}

-- ── pieces and segments

-- a piece inside a segment that o bytes come before: it starts there where its offset says
pub record Inside (o : ℕ) (p : Piece) (s : Segment) : Type 0 where
  pub after : o ≤ p.offset
  pub place : p.address ≡ s.address + (p.offset - o)
  pub ends : p.offset + p.len ≤ o + s.len
  pub handle : p.handle ≡ s.handle

-- it lies inside one of the segments
abbrev pub InSegments : ℕ → Piece → List Segment → Type 0
InSegments o p [] = ⊥
InSegments o p (s ∷ ss) = Inside o p s ⊎ InSegments (o + s.len) p ss

-- it ends where one of the segments does
abbrev pub EndsSegment : ℕ → Piece → List Segment → Type 0
EndsSegment o p [] = ⊥
EndsSegment o p (s ∷ ss) = (p.offset + p.len ≡ o + s.len) ⊎ EndsSegment (o + s.len) p ss

-- by its addresses it crosses no multiple of Q: one above its first address is not below its end
abbrev pub CrossesNone : (Q : ℕ) → Piece → Type 0
CrossesNone Q p = (k : ℕ) → p.address < k * Q → p.address + p.len ≤ k * Q

-- it ends at a multiple of Q
abbrev pub EndsAtMultiple : (Q : ℕ) → Piece → Type 0
EndsAtMultiple Q p = (k : ℕ) × (p.address + p.len ≡ k * Q)

-- it is M long, or ends at a multiple of Q, or where the move does, `to` bytes behind the first of the segments, or where its segment does
abbrev pub AsLong : (M Q o to : ℕ) → List Segment → Piece → Type 0
AsLong M Q o to ss p = (p.len ≡ M) ⊎ EndsAtMultiple Q p ⊎ (p.offset + p.len ≡ o + to) ⊎ EndsSegment o p ss

-- each piece starts where the one before it ends
abbrev pub Consecutive : ℕ → List Piece → Type 0
Consecutive o [] = Unit {0}
Consecutive o (p ∷ ps) = (p.offset ≡ o) × Consecutive (o + p.len) ps

-- n bytes of memory from an address on, each as its handle and address
abbrev pub run : ℕ → ℕ → ℕ → List (ℕ × ℕ)
run h a zero = []
run h a (suc n) = (h, a) ∷ run h (a + 1) n

abbrev pub bytes_of_segments : List Segment → List (ℕ × ℕ)
bytes_of_segments [] = []
bytes_of_segments (s ∷ ss) = run s.handle s.address s.len ++ bytes_of_segments ss

abbrev pub bytes_of_pieces : List Piece → List (ℕ × ℕ)
bytes_of_pieces [] = []
bytes_of_pieces (p ∷ ps) = run p.handle p.address p.len ++ bytes_of_pieces ps

-- ── the cuts of a move

-- 1 to M long, crossing no multiple of Q, "each piece as long as possible", each inside one segment, one behind the other from the move's offset on, and
-- together the move's bytes, in order, once
pub record CutAsMove (M Q from to : ℕ) (ss : List Segment) (ps : List Piece) : Type 0 where
  pub sizes : All (λ p. (1 ≤ p.len) × (p.len ≤ M)) ps
  pub boundaries : All (CrossesNone Q) ps
  pub longest : All (λ p. AsLong M Q 0 to ss p) ps
  pub inside : All (λ p. InSegments 0 p ss) ps
  pub consecutive : Consecutive from ps
  pub bytes : bytes_in ps ≡ to - from
  pub covered : bytes_of_pieces ps ≡ drop from (take to (bytes_of_segments ss))

-- a move ends by min(R, B), so by B
abbrev pub MovesCut : Type 0
MovesCut = (M Q from to : ℕ) (ss : List Segment) → 1 ≤ M → to ≤ sum_of ss → CutAsMove M Q from to ss (cuts_of (up_to M Q) from to ss)

-- a piece by itself crosses none, whatever the segments; with a good Q its address in 64 bits, as a call hands it out, does not either
abbrev pub NextCrossesNone : Type 0
NextCrossesNone = (M Q from to : ℕ) (ss : List Segment) (p : Piece) → 1 ≤ M → next (up_to M Q) from to ss ≡ some p
    → CrossesNone Q p × (bad_boundary Q ≡ false → CrossesNone Q (wrapped p))

-- document 01's own list is the move that offset 0 and count R name
abbrev pub OwnList : Type 0
OwnList = (rule : Rule) (R : ℕ) (ss : List Segment) → cuts rule R ss ≡ cuts_of rule 0 (trimmed 0 R (min R (sum_of ss))) ss

-- ── h

-- one of the pieces ends at h: as each has a byte, its last one has the offset h - 1
abbrev pub EndsAt : List Piece → ℕ → Type 0
EndsAt ps h = (k : ℕ) × (p : Piece) × (get_elem? ps k ≡ some p) × (p.offset + p.len ≡ h)

-- no byte handed out has the offset h or a higher one, and a piece ends there; 0 where nothing was handed out
pub record IsHighest (ps : List Piece) (h : ℕ) : Type 0 where
  pub above : All (λ p. p.offset + p.len ≤ h) ps
  pub met : ((ps ≡ []) × (h ≡ 0)) ⊎ EndsAt ps h

abbrev pub HighestIs : Type 0
HighestIs = (ps : List Piece) → IsHighest ps (highest ps)

-- of pieces one behind the other from offset 0 on, as those of document 01's own list, h is their bytes
abbrev pub HighestOfOwn : Type 0
HighestOfOwn = (ps : List Piece) → Consecutive 0 ps → highest ps ≡ bytes_in ps
