-- Document 01, "Credit", and document 02, jobs 1, 4, 6, 7 and 8: the state of one channel, W, A, H and D, what moves of its commands' data, and the line
-- of moves.
use Rattle.std.specs.Prelude.{◌≡◌, Bool, false, List, [], ◌∷◌, ℕ, ◌+◌, ◌-◌, min, eqb, ℤ, length}
use Rattle.std.proofs.Math.Option.{Option}
use Rattle.std.proofs.Math.IntN.{sub_ℕ}
use Rattle.srp.specs.Lists.{find, is_some}
use Rattle.srp.specs.Both.{Both, alter}
use Rattle.srp.specs.Descriptors.{Segment, Given}
use Rattle.srp.specs.Cutting.{Rule, up_to}
use Rattle.srp.specs.declared.Request.{Request}
use Rattle.srp.specs.declared.Terms.{Terms}
use Rattle.srp.specs.declared.Direction.{Direction}
use Rattle.srp.specs.declared.Transfer.{Transfer}
use Rattle.srp.specs.declared.Place.{Place}

-- one direction of a command's data: what is fixed, its segments and B
pub record Extent : Type 0 where
  pub segs : List Segment
  pub total : ℕ

-- and what moves: R (0 until planned), h ("the highest offset handed out + 1, 0 where nothing was"), what is left of the current move, the bytes from
-- `at` up to `end`, and "the number handed out so far for the current move"
pub record Side : Type 0 where
  pub extent : Extent
  pub transfer : Transfer

abbrev pub with_transfer : Side → Transfer → Side
with_transfer s g = record { extent = s.extent; transfer = g }

-- before a plan
abbrev pub unmoved : Transfer
unmoved = record { required = 0; highest = 0; at = 0; end = 0; number = 0 }

-- with another R; with another h and another current move
abbrev pub with_required : ℕ → Transfer → Transfer
with_required r t = record { required = r; highest = t.highest; at = t.at; end = t.end; number = t.number }

abbrev pub with_current : (highest at end number : ℕ) → Transfer → Transfer
with_current highest at end number t = record { required = t.required; highest = highest; at = at; end = end; number = number }

-- min(R, B)
abbrev pub movable : Side → ℕ
movable s = min s.transfer.required s.extent.total

-- a command that was taken and has not ended, with S for each direction; `awaits`: what its tables will be judged by, while it waits for them
pub record Held (S : Type 0) : Type 0 where
  pub request : Request
  pub awaits : Option (Both Given)
  pub planned : Bool
  pub sides : Both S

-- with another state of its plan and its directions
abbrev pub with_sides : {S U : Type 0} → Held S → Bool → Both U → Held U
with_sides c planned sides = record { request = c.request; awaits = c.awaits; planned = planned; sides = sides }

-- with one direction changed
abbrev pub on_side : {S : Type 0} → Direction → (S → S) → Held S → Held S
on_side d f c = with_sides c c.planned (alter d f c.sides)

-- as the port has it
abbrev pub Open : Type 0
Open = Held Side

abbrev pub has_tag : {S : Type 0} → ℕ → Held S → Bool
has_tag tag c = eqb tag c.request.tag

-- no command of these has the tag; no two have one tag
abbrev pub Absent : {S : Type 0} → ℕ → List (Held S) → Type 0
Absent tag cs = is_some (find (has_tag tag) cs) ≡ false

abbrev pub Distinct : {S : Type 0} → List (Held S) → Type 0
Distinct [] = Unit {0}
Distinct (c ∷ cs) = Absent c.request.tag cs × Distinct cs

-- a move in the line: its command's tag and its direction
abbrev pub place : ℕ → Direction → Place
place tag d = record { tag = tag; direction = d }

-- the rule that a login's pieces are cut by
abbrev pub rule_of : Terms → Rule
rule_of T = up_to T.maximum T.boundary

abbrev pub no_terms : Terms
no_terms = record { maximum = 0; boundary = 0; agreed = 0; formats = 0; crsolnt = false; losolnt = false }

-- `wanted` is W, `announced` A, `held` the open commands, oldest first: between calls their number is H. `unanswered`: a credit request
-- waits for its response. `line`: the moves that turns serve, the next one first
pub record Port : Type 0 where
  pub live : Bool
  pub wanted : ℕ
  pub announced : ℕ
  pub held : List Open
  pub unanswered : Bool
  pub terms : Terms
  pub line : List Place

-- "without an accepted login it is closed": a closed channel is this value
abbrev pub closed_port : Port
closed_port = record { live = false; wanted = 0; announced = 0; held = []; unanswered = false; terms = no_terms; line = [] }

-- D, which may be negative: it is not kept, since A + H + D = W always
abbrev pub owed : Port → ℤ
owed p = sub_ℕ p.wanted (p.announced + length p.held)

-- a message's delta, "the larger of D and 0"
abbrev pub due : Port → ℕ
due p = p.wanted - (p.announced + length p.held)

-- ── the port with other numbers

-- other W, A, open commands, whether a credit request is unanswered, and another line
abbrev pub with_credit : Port → ℕ → ℕ → List Open → Bool → List Place → Port
with_credit p w a cs u l = record { live = p.live; wanted = w; announced = a; held = cs; unanswered = u; terms = p.terms; line = l }

abbrev pub with_moves : Port → ℕ → List Open → List Place → Port
with_moves p a cs l = with_credit p p.wanted a cs p.unanswered l

abbrev pub with_held : Port → ℕ → List Open → Port
with_held p a cs = with_moves p a cs p.line

abbrev pub with_wanted : Port → ℕ → Port
with_wanted p w = with_credit p w p.announced p.held p.unanswered p.line

abbrev pub with_unanswered : Port → Bool → Port
with_unanswered p u = with_credit p p.wanted p.announced p.held u p.line
