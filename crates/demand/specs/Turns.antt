-- Document 02, job 8, turns, of the C functions. That turns are events of demand 3, with each command's operations as it has them "under any mix of turns and
-- single steps", is said in Holding.antt; here, how soon a move is served, and what the line and a turn's words are in every port that the C functions made.
use Rattle.std.specs.Prelude.{◌≡◌, ◌↔◌, true, false, List, [], ◌∷◌, ℕ, ◌+◌, ◌≤◌, length, get_or}
use Rattle.std.proofs.Math.Option.{some}
use Rattle.srp.specs.Limits.{most_moves}
use Rattle.srp.specs.Lists.{find}
use Rattle.srp.specs.Both.{of}
use Rattle.srp.specs.Credit.{Open, Port, has_tag}
use Rattle.srp.specs.Line.{Lined}
use Rattle.srp.specs.Calls.{has_pieces, unfinished, kind_of, next_in}
use Rattle.srp.specs.Answers.{kind_number_lem}
use Rattle.srp.specs.declared.Direction.{Direction}
use Rattle.srp.specs.declared.Piece.{Piece}
use Rattle.srp.specs.declared.Place.{Place}
use Rattle.machine.specs.Demand.{Attended}
use Rattle.demand.specs.Posts.{Slice, MutSlice, TurnPost}
use Rattle.demand.specs.Calls.{Memory, seen, Call}
use Rattle.demand.specs.Following.{Led}
use Rattle.demand.specs.Holding.{OfRuns}

-- "a move in it is served within 32 of these calls unless it has left the line before, for every list of other calls between": of each move that is in the line at
-- the start or after an event. As many turns serve others as stand before it
abbrev pub ServedInTime : (settings : List ℕ) (Q : ℕ) (own msg : List ℕ) (room : ℕ) (ss : List (List ℕ)) (p store : List ℕ) → Type 0
ServedInTime settings Q own msg room ss p store = OfRuns (λ L s m es run. Attended L seen Call s m es run) settings Q own msg room ss p store

-- ── the line of a port

pub record InLine (p : Port) : Type 0 where
  -- it is each move with pieces, once
  pub lined : Lined has_pieces p.held p.line
  -- "The line has at most 32 moves"
  pub short : length p.line ≤ most_moves

-- ── what a turn says on the port p: n is returned, w are the words

-- the move x, of an open command, is served: 1, its direction's kind, its piece (handle, address, length, offset), the number of pieces handed out for it, this
-- one included, and its tag
pub record ServesInC (p : Port) (x : Place) (n : ℕ) (w : List ℕ) : Type 0 where
  pub command : Open
  pub is_open : find (has_tag x.tag) p.held ≡ some command
  pub piece : Piece
  pub next : next_in p.terms (of x.direction command.sides) ≡ some piece
  pub number : n ≡ 0
  pub words : w
      ≡ 1
      ∷ kind_number_lem (kind_of x.direction)
      ∷ piece.handle
      ∷ piece.address
      ∷ piece.len
      ∷ piece.offset
      ∷ ((of x.direction command.sides).transfer.number + 1)
      ∷ x.tag
      ∷ []

pub record TurnSays (p : Port) (n : ℕ) (w : List ℕ) : Type 0 where
  -- "the call serves the first"
  pub first : (x : Place) (others : List Place) → p.line ≡ x ∷ others → ServesInC p x n w
  -- "The call says idle only with an empty line", and always then: 0 is returned and the first word is 0 exactly where the channel is open and no open
  -- command has a move with pieces
  pub idle : ((n ≡ 0) × (get_or w 0 0 ≡ 0)) ↔ ((p.live ≡ true) × ((tag : ℕ) (d : Direction) → unfinished d (find (has_tag tag) p.held) ≡ false))

-- ── turns, whole

pub record TurnsInC : Type 0 where
  pub served : (settings : List ℕ) (Q : ℕ) (own msg : List ℕ) (room : ℕ) (ss : List (List ℕ)) (p store : List ℕ) → ServedInTime settings Q own msg room ss p store
  pub line : (s : Memory) → Led s → InLine (seen s)
  pub says : (s : Memory) → Led s → (p q : MutSlice) (st : Slice) (w v : MutSlice) (n : ℕ) → p.now ≡ s.words → st.now ≡ s.store → TurnPost p q st w v n → TurnSays (seen s) n v.now
