-- What every port has that a login made and calls changed, whatever they answered. The laws are `reached` of proofs/Ranges.antt, `has_pieces_lem` of
-- proofs/Moves.antt, `operations_at_most` of proofs/Segments.antt, and those of proofs/Turns.antt.
use Rattle.std.specs.Prelude.{◌≡◌, ◌⊎◌, ◌↔◌, true, false, cond, List, [], ◌∷◌, ℕ, ◌+◌, ◌-◌, ◌/◌, ◌^◌, ◌≤◌, ◌<◌, eqb, length, Ok}
use Rattle.std.proofs.Math.Option.{some}
use Rattle.srp.specs.Limits.{most_buffers, most_moves, largest_piece, most_copies}
use Rattle.srp.specs.Lists.{find, All, is_some}
use Rattle.srp.specs.Descriptors.{standing_size_lem, Given, sum_of, reachable}
use Rattle.srp.specs.Cutting.{cuts_of, bad_boundary}
use Rattle.srp.specs.Both.{Both, Each}
use Rattle.srp.specs.Credit.{Extent, Side, movable, Open, has_tag, Distinct, rule_of, Port, closed_port}
use Rattle.srp.specs.Line.{Lined}
use Rattle.srp.specs.Take.{Tables, take_def}
use Rattle.srp.specs.Tables.{tables_def}
use Rattle.srp.specs.Calls.{has_pieces, unfinished, next_in, next_of, plan_def, move_def, step_def, turn_def, finish_def, add_def, withdraw_def, grant_def, close_def}
use Rattle.srp.specs.Login.{login_def}
use Rattle.srp.specs.declared.Settings.{Settings}
use Rattle.srp.specs.declared.Terms.{Terms}
use Rattle.srp.specs.declared.Direction.{Direction}
use Rattle.srp.specs.declared.Place.{Place}
use Rattle.srp.specs.declared.Reply.TheVariants.{Idle}
use Rattle.srp.specs.Bytes.{Bytes}

-- one direction: its segments are at most 32 and end by 2^64, `total` is B
pub record ExtentRanges (e : Extent) : Type 0 where
  pub few : length e.segs ≤ most_copies
  pub reach : reachable e.segs ≡ true
  pub sum : e.total ≡ sum_of e.segs
  pub small : e.total < 2 ^ 32

-- its current move and h stay within min(R, B), and it had at most as many operations as the next byte's offset says, since each had a byte
pub record SideRanges (s : Side) : Type 0 where
  pub extent : ExtentRanges s.extent
  pub highest : s.transfer.highest ≤ movable s
  pub at : s.transfer.at ≤ s.transfer.end
  pub end : s.transfer.end ≤ movable s
  pub number : s.transfer.number ≤ s.transfer.at
  pub required : s.transfer.required < 2 ^ 32

-- of such a direction, 32 is drawn just where step has a piece to hand out
abbrev pub HasPieces : Type 0
HasPieces = (T : Terms) (s : Side) → 1 ≤ T.maximum → SideRanges s → has_pieces s ≡ is_some (next_in T s)

-- a move of it has at most one operation for each of 32 segments, and one more for each M bytes; with boundaries as many again, by Q; and no move has 2^32
-- bytes
abbrev pub most_operations : (M Q bytes : ℕ) → ℕ
most_operations M Q bytes = most_copies + bytes / M + cond (eqb Q 0) 0 (most_copies + bytes / Q)

abbrev pub OperationsAtMost : Type 0
OperationsAtMost = (T : Terms) (s : Side) (from to : ℕ) → 1 ≤ T.maximum → SideRanges s → to ≤ movable s
    → let n : ℕ = length (cuts_of (rule_of T) from to s.extent.segs) in
    let most : ℕ → ℕ = most_operations T.maximum T.boundary in
    (n ≤ most (to - from)) × (n ≤ most (2 ^ 32 - 1))

-- a direction as a message gave it: an agreed format, at most 32 copies, and as many bytes as its descriptor says
pub record GivenRanges (g : Given) : Type 0 where
  pub format : g.descriptor.format ≤ 2
  pub count : g.descriptor.count ≤ most_copies
  pub len : g.descriptor.len < 2 ^ 32
  pub total : g.descriptor.total < 2 ^ 32
  pub bytes : Bytes g.bytes
  pub size : length g.bytes ≡ standing_size_lem g.descriptor

-- an open command: its tag has 8 bytes, it is not planned while it waits for its tables, and R is 0 until it is planned
pub record OpenRanges (c : Open) : Type 0 where
  pub tag : c.request.tag < 2 ^ 64
  pub awaited : (g : Both Given) → c.awaits ≡ some g → Each GivenRanges g × (c.planned ≡ false)
  pub sides : Each SideRanges c.sides
  pub unplanned : c.planned ≡ false → Each (λ s. s.transfer.required ≡ 0) c.sides

-- a port that is open: W, A + H, M, Q and its commands, of which no two have one tag; and its line is each move with pieces, once
pub record Ranges (p : Port) : Type 0 where
  pub live : p.live ≡ true
  pub least : 1 ≤ p.wanted
  pub most : p.wanted ≤ most_buffers
  pub room : p.announced + length p.held ≤ most_buffers
  pub smallest : 1 ≤ p.terms.maximum
  pub largest : p.terms.maximum ≤ largest_piece
  pub boundary : bad_boundary p.terms.boundary ≡ false
  pub commands : All OpenRanges p.held
  pub distinct : Distinct p.held
  pub line : Lined has_pieces p.held p.line

-- "The line has at most 32 moves"
abbrev pub ShortLine : Type 0
ShortLine = (p : Port) → Ranges p → length p.line ≤ most_moves

-- the move that stands first has a piece, which a turn serves
abbrev pub FirstHasPiece : Type 0
FirstHasPiece = (p : Port) → Ranges p → (x : Place) (others : List Place) → p.line ≡ x ∷ others
    → is_some (next_of p.terms x.direction (find (has_tag x.tag) p.held)) ≡ true

-- "The call says idle only with an empty line", and with an empty line always; it is empty just where no open command has a move with pieces
pub record IdleTurn (p : Port) : Type 0 where
  pub says : ((turn_def p).reply ≡ Ok Idle) ↔ (p.line ≡ [])
  pub means : (p.line ≡ []) ↔ ((tag : ℕ) (d : Direction) → unfinished d (find (has_tag tag) p.held) ≡ false)

abbrev pub IdleTurns : Type 0
IdleTurns = (p : Port) → Ranges p → IdleTurn p

-- the ports that a login made, accepted or not, and calls changed, whatever they answered; a message is bytes, and R below 2^32
pub data Reached : Port → Type 0 where
  logged_in_lem : (c : Settings) (own : List ℕ) (room : ℕ) (s : List ℕ) → Reached (login_def c own room s).port
  took : {p : Port} → Reached p → (room : ℕ) (s : List ℕ) → Bytes s → Reached (take_def p room s).port
  brought : {p : Port} → Reached p → (room tag : ℕ) (t : Tables) → Reached (tables_def p room tag t).port
  planned : {p : Port} → Reached p → (tag out inn : ℕ) → out < 2 ^ 32 → inn < 2 ^ 32 → Reached (plan_def p tag out inn).port
  moved : {p : Port} → Reached p → (tag : ℕ) (d : Direction) (offset count : ℕ) → Reached (move_def p tag d offset count).port
  stepped : {p : Port} → Reached p → (tag : ℕ) (d : Direction) → Reached (step_def p tag d).port
  turned : {p : Port} → Reached p → Reached (turn_def p).port
  finished : {p : Port} → Reached p → (room tag status : ℕ) (sense : List ℕ) → Reached (finish_def p room tag status sense).port
  added : {p : Port} → Reached p → (k : ℕ) → Reached (add_def p k).port
  withdrew : {p : Port} → Reached p → (k : ℕ) → Reached (withdraw_def p k).port
  granted : {p : Port} → Reached p → (room : ℕ) → Reached (grant_def p room).port
  hung_up : {p : Port} → Reached p → (room reason : ℕ) → Reached (close_def p room reason).port

-- closed, as the one value, or open with the ranges
abbrev pub Ranged : Port → Type 0
Ranged p = (p ≡ closed_port) ⊎ Ranges p
