-- Document 01, "Cutting", and document 02, jobs 1, 4, 6 and 8: the operations of an open command as demand 3 has them, by the machine's own moves and segments,
-- and what a step and a turn must say.
use Rattle.std.specs.Prelude.{◌≡◌, ◌↔◌, Bool, false, List, [], ◌∷◌, ◌++◌, ℕ, ◌+◌, ◌-◌, ◌≤◌, ltb, length, Result, Ok}
use Rattle.std.proofs.Math.Option.{Option, none, some}
use Rattle.std.proofs.Math.ListN.{get_elem?}
use Rattle.srp.specs.Both.{of}
use Rattle.srp.specs.Cutting.{Rule, cuts_of}
use Rattle.srp.specs.Descriptors.{Segment}
use Rattle.srp.specs.Credit.{rule_of}
use Rattle.srp.specs.Line.{more_in}
use Rattle.srp.specs.Moves.{CrossesNone}
use Rattle.srp.specs.Fewest.{Fewest}
use Rattle.srp.specs.Calls.{kind_of}
use Rattle.srp.specs.Ranges.{most_operations}
use Rattle.machine.specs.Machine.{Move, Progress, last_of, so_far, movable_in, Track, with_operation, Machine, tracked}
use Rattle.srp.specs.declared.Terms.{Terms}
use Rattle.srp.specs.declared.Direction.{Direction}
use Rattle.srp.specs.declared.Kind.{Kind}
use Rattle.srp.specs.declared.Piece.{Piece}
use Rattle.srp.specs.declared.Place.{Place}
use Rattle.srp.specs.declared.Reply.{Reply}
use Rattle.srp.specs.declared.Reply.TheVariants.{Operation, Done, Served, Idle}
use Rattle.srp.specs.declared.Refusal.{Refusal}

-- "those that document 01 cuts from its own segments": "A command's operations are now the cuts of its moves in the order named, and demand 3 is read so"
abbrev pub cuts_of_all : Rule → List Segment → List Move → List Piece
cuts_of_all rule ss [] = []
cuts_of_all rule ss (m ∷ ms) = cuts_of rule m.from m.to ss ++ cuts_of_all rule ss ms

abbrev pub whole_of : Terms → Progress → List Piece
whole_of T g = cuts_of_all (rule_of T) g.segs g.moves

-- ── what a move is refused for

-- 31, by R and the segments
abbrev pub is_beyond : Direction → ℕ → Option Track → Bool
is_beyond d offset none = false
is_beyond d offset (some t) = ltb (movable_in (of d t.sides)) offset

-- 32, by what was named and handed out: the moves have more cuts than there were operations
abbrev pub pieces_left : Terms → Progress → Bool
pieces_left T g = ltb (length g.operations) (length (whole_of T g))

abbrev pub is_unfinished : Terms → Direction → Option Track → Bool
is_unfinished T d t = more_in (pieces_left T) d t

-- ── what a step says

-- of the piece whose turn it is: "the number handed out so far for the current move, their own piece included"; n is the number without it
abbrev pub said_of : Direction → (n : ℕ) → Option Piece → Result Reply Refusal
said_of d n none = Ok (Done n)
said_of d n (some o) = Ok (Operation (kind_of d) o (n + 1))

-- "For a finished move this is the length of its cut list, and every other list .. has at least as many". So many adapter slots are enough for the move
pub record Finished (T : Terms) (ss : List Segment) (m : Move) (n : ℕ) : Type 0 where
  pub fewest : Fewest T m.from m.to ss n
  pub slots : n ≤ most_operations T.maximum T.boundary (m.to - m.from)

-- the current move, of which n operations were handed out, is finished
abbrev pub CurrentFinished : Terms → Progress → ℕ → Type 0
CurrentFinished T g n = (m : Move) → last_of g.moves ≡ some m → Finished T g.segs m n

-- a piece o, handed out by a step or a turn with the number n: it is the next of its direction's operations; by its addresses it crosses no multiple of Q; and the
-- number that comes with the last piece of a move is a finished move's
pub record HandedOut (T : Terms) (g : Progress) (o : Piece) (n : ℕ) : Type 0 where
  pub next : get_elem? (whole_of T g) (length g.operations) ≡ some o
  pub number : n ≡ so_far g + 1
  pub uncrossed : CrossesNone T.boundary o
  pub last : pieces_left T (with_operation o g) ≡ false → CurrentFinished T g n

-- an unrefused step's reply r is the next of them, in its direction's kind, with the number, "0 before any move"; it "says done exactly when all those of its
-- command and direction were handed out before it"; and the number that comes with done is a finished move's
pub record Right (T : Terms) (d : Direction) (g : Progress) (r : Result Reply Refusal) : Type 0 where
  pub in_turn : r ≡ said_of d (so_far g) (get_elem? (whole_of T g) (length g.operations))
  pub before : g.moves ≡ [] → r ≡ Ok (Done 0)
  pub done_iff : ((n : ℕ) × (r ≡ Ok (Done n))) ↔ (g.operations ≡ whole_of T g)
  pub finished : (n : ℕ) → r ≡ Ok (Done n) → CurrentFinished T g n
  pub handed : (k : Kind) (o : Piece) (n : ℕ) → r ≡ Ok (Operation k o n) → HandedOut T g o n

-- ── what a turn says

-- it serves the move x of an open command: "A piece comes with its tag, direction and Job 4's number"
pub record Serves (T : Terms) (m : Machine) (x : Place) (r : Result Reply Refusal) : Type 0 where
  pub track : Track
  pub is_open : tracked m x.tag ≡ some track
  pub piece : Piece
  pub number : ℕ
  pub says : r ≡ Ok (Served x.tag x.direction piece number)
  pub handed : HandedOut T (of x.direction track.sides) piece number

-- "the call serves the first"
abbrev pub ByLine : Terms → Machine → (line : List Place) → Result Reply Refusal → Type 0
ByLine T m [] r = r ≡ Ok Idle
ByLine T m (x ∷ others) r = Serves T m x r

-- "The call says idle only with an empty line", and always then; which is where no open command has a move with pieces
pub record TurnRight (T : Terms) (m : Machine) (r : Result Reply Refusal) : Type 0 where
  pub first : ByLine T m m.work.line r
  pub idle : (r ≡ Ok Idle) ↔ (m.work.line ≡ [])
  pub no_pieces : (r ≡ Ok Idle) ↔ ((tag : ℕ) (d : Direction) → is_unfinished T d (tracked m tag) ≡ false)
