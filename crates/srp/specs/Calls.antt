-- Document 01, and document 02, jobs 1, 4, 5, 7 and 8: the other calls on a port. "Other calls: 1, 21, 11, 24, 30, 29, 26, 27, 28, those that apply"; a
-- refusal alters nothing.
use Rattle.std.specs.Prelude.{Bool, true, false, not, ◌&&◌, ◌||◌, List, [], ◌∷◌, ◌++◌, map, ℕ, ◌+◌, ◌-◌, ◌%◌, ◌^◌, max, ltb, leb, eqb, length, Ok, Err}
use Rattle.std.proofs.Math.Option.{Option, none, some}
use Rattle.srp.specs.Limits.{most_buffers, longest_sense}
use Rattle.srp.specs.Lists.{find, change, over}
use Rattle.srp.specs.Refusals.{Check, first_of_checks, short}
use Rattle.srp.specs.Cutting.{piece, next, trimmed}
use Rattle.srp.specs.Both.{of, along}
use Rattle.srp.specs.Credit.{Side, with_transfer, with_required, with_current, movable, Held, on_side, Open, has_tag, place, rule_of, Port, closed_port, owed, due, with_moves, with_held, with_wanted, with_unanswered, with_sides}
use Rattle.srp.specs.Line.{more_in, joins, put_back, keeps_place}
use Rattle.srp.specs.declared.Terms.{Terms}
use Rattle.srp.specs.Writing.{residual_of, Response, response, credit_request, target_logout, solicited}
use Rattle.srp.specs.Take.{Outcome, silent, answering, closed, is_open_lem, leaving}
use Rattle.srp.specs.Tables.{is_waiting}
use Rattle.srp.specs.declared.Refusal.{Refusal}
use Rattle.srp.specs.declared.Refusal.TheVariants.{Argument, TagNotOpen, Unanswered, NotOwed, Wanted, Unplanned, Planned, Offset, Unfinished, Waiting}
use Rattle.srp.specs.declared.Direction.{Direction}
use Rattle.srp.specs.declared.Direction.TheVariants.{Out, In}
use Rattle.srp.specs.declared.Place.{Place}
use Rattle.srp.specs.declared.Kind.{Kind}
use Rattle.srp.specs.declared.Kind.TheVariants.{Read, Write}
use Rattle.srp.specs.declared.Piece.{Piece}
use Rattle.srp.specs.declared.Counters.{Counters}
use Rattle.srp.specs.declared.Record.{Record}
use Rattle.srp.specs.declared.Reply.TheVariants.{Performed, Operation, Done, Served, Idle, Counts, Listed}

-- the outcome o, where no check hits
abbrev pub unless : Option Refusal → Port → Outcome → Outcome
unless none p o = o
unless (some r) p o = silent p (Err r)

-- "33 plan, move, step or finish on a waiting command .. directly after 24"
abbrev pub open_checks : Port → ℕ → List Check
open_checks p tag = (not (is_open_lem p tag), TagNotOpen) ∷ (is_waiting (find (has_tag tag) p.held), Waiting) ∷ []

-- ── plan

abbrev pub is_planned : {S : Type 0} → Option (Held S) → Bool
is_planned none = false
is_planned (some c) = c.planned

abbrev pub requiring : ℕ → Side → Side
requiring r s = with_transfer s (with_required r s.transfer)

abbrev pub planned : ℕ → ℕ → Open → Open
planned out inn c = with_sides c true (along requiring (record { out = out; inn = inn }) c.sides)

abbrev pub plan_checks : Port → ℕ → List Check
plan_checks p tag = closed p ∷ open_checks p tag ++ ((is_planned (find (has_tag tag) p.held), Planned) ∷ [])

-- "Plan states once per command, for each direction, R"
abbrev pub plan_outcome : Port → ℕ → ℕ → ℕ → Outcome
plan_outcome p tag out inn = silent (with_held p p.announced (change (has_tag tag) (planned out inn) p.held)) (Ok Performed)

abbrev pub plan_def : Port → ℕ → ℕ → ℕ → Outcome
plan_def p tag out inn = unless (first_of_checks (plan_checks p tag)) p (plan_outcome p tag out inn)

-- ── move

-- the move named is the current one, of which nothing was handed out; h stays
abbrev pub moving : ℕ → ℕ → Side → Side
moving offset count s = with_transfer s (with_current s.transfer.highest offset (trimmed offset count (movable s)) 0 s.transfer)

-- "31 offset above min(R, B)"
abbrev pub beyond : Direction → ℕ → Option Open → Bool
beyond d offset none = false
beyond d offset (some c) = ltb (movable (of d c.sides)) offset

-- "32 the direction's earlier move still has pieces": just where step would hand one out (`HasPieces`, specs/Ranges.antt)
abbrev pub has_pieces : Side → Bool
has_pieces s = ltb s.transfer.at s.transfer.end

abbrev pub unfinished : Direction → Option Open → Bool
unfinished d c = more_in has_pieces d c

-- "both after 29, which moves draw too"
abbrev pub move_checks : Port → ℕ → Direction → ℕ → List Check
move_checks p tag d offset =
    let c : Option Open = find (has_tag tag) p.held in
    closed p ∷ open_checks p tag ++ ((not (is_planned c), Unplanned) ∷ (beyond d offset c, Offset) ∷ (unfinished d c, Unfinished) ∷ [])

-- one direction of the command with the tag changes by f, and the line by whether its move has pieces then
abbrev pub altered : Port → ℕ → Direction → (Side → Side) → (line : Bool → List Place) → Port
altered p tag d f line =
    let cs : List Open = change (has_tag tag) (on_side d f) p.held in
    with_moves p p.announced cs (line (unfinished d (find (has_tag tag) cs)))

-- "After plan, the owner names a move: direction, offset, count"; "Each named move with pieces joins a line at its end"
abbrev pub move_outcome : Port → ℕ → Direction → ℕ → ℕ → Outcome
move_outcome p tag d offset count = silent (altered p tag d (moving offset count) (λ more. joins more (place tag d) p.line)) (Ok Performed)

abbrev pub move_def : Port → ℕ → Direction → ℕ → ℕ → Outcome
move_def p tag d offset count = unless (first_of_checks (move_checks p tag d offset)) p (move_outcome p tag d offset count)

-- ── step

-- "Data-out gives RDMA Reads, data-in RDMA Writes"
abbrev pub kind_of : Direction → Kind
kind_of Out = Read
kind_of In = Write

-- a piece more of the current move is handed out, of n bytes
abbrev pub handing : ℕ → Side → Side
handing n s =
    let to : ℕ = s.transfer.at + n in
    with_transfer s (with_current (max s.transfer.highest to) to s.transfer.end (s.transfer.number + 1) s.transfer)

-- the next piece of a direction's current move
abbrev pub next_in : Terms → Side → Option Piece
next_in T s = next (rule_of T) s.transfer.at s.transfer.end s.extent.segs

abbrev pub next_of : Terms → Direction → Option Open → Option Piece
next_of T d none = none
next_of T d (some c) = next_in T (of d c.sides)

-- "the number handed out so far for the current move"
abbrev pub number_in : Direction → Option Open → ℕ
number_in d none = 0
number_in d (some c) = (of d c.sides).transfer.number

-- an address in 64 bits; for every port that a login made it stays as it is
abbrev pub wrapped : Piece → Piece
wrapped o = piece (o.address % 2 ^ 64) o.handle o.len o.offset

-- "Step's answers carry the number handed out so far for the current move, their own piece included": n is the number without it. "a single step's last
-- piece" removes the move from the line
abbrev pub hand_out_lem : Port → ℕ → Direction → (n : ℕ) → Option Piece → Outcome
hand_out_lem p tag d n none = silent p (Ok (Done n))
hand_out_lem p tag d n (some o) =
    silent (altered p tag d (handing o.len) (λ more. keeps_place more (place tag d) p.line)) (Ok (Operation (kind_of d) (wrapped o) (n + 1)))

abbrev pub step_checks : Port → ℕ → List Check
step_checks p tag = closed p ∷ open_checks p tag ++ ((not (is_planned (find (has_tag tag) p.held)), Unplanned) ∷ [])

-- "Step names a tag and a direction and hands out the next piece there, or says done"; "step serves the pieces of that direction's current move"
abbrev pub step_outcome : Port → ℕ → Direction → Outcome
step_outcome p tag d =
    let c : Option Open = find (has_tag tag) p.held in
    hand_out_lem p tag d (number_in d c) (next_of p.terms d c)

abbrev pub step_def : Port → ℕ → Direction → Outcome
step_def p tag d = unless (first_of_checks (step_checks p tag)) p (step_outcome p tag d)

-- ── turn

-- x stood before the others: "serves the first and puts it back at the end if pieces remain". "A piece comes with its tag, direction and Job 4's number".
-- In a port that a login made it has one; where it has none, nothing is altered
abbrev pub serve : Port → (x : Place) (others : List Place) (n : ℕ) → Option Piece → Outcome
serve p x others n none = silent p (Ok Idle)
serve p x others n (some o) =
    silent (altered p x.tag x.direction (handing o.len) (λ more. put_back more x others)) (Ok (Served x.tag x.direction (wrapped o) (n + 1)))

-- "The call says idle only with an empty line"
abbrev pub serve_first : Port → List Place → Outcome
serve_first p [] = silent p (Ok Idle)
serve_first p (x ∷ others) =
    let c : Option Open = find (has_tag x.tag) p.held in
    serve p x others (number_in x.direction c) (next_of p.terms x.direction c)

abbrev pub turn_checks : Port → List Check
turn_checks p = closed p ∷ []

-- "one call that picks the next piece"
abbrev pub turn_def : Port → Outcome
turn_def p = unless (first_of_checks (turn_checks p)) p (serve_first p p.line)

-- ── finish

-- "sense above 96 bytes or any sense with a status other than 02h"
abbrev pub bad_sense_lem : ℕ → List ℕ → Bool
bad_sense_lem status sense = ltb longest_sense (length sense) || (ltb 0 (length sense) && not (eqb status 0x02))

-- the response of a command
abbrev pub final_of : Open → ℕ → List ℕ → ℕ → Response
final_of c status sense delta =
    record {
      solnt = solicited c.request status;
      delta = delta;
      tag = c.request.tag;
      status = status;
      out = residual_of c.sides.out;
      inn = residual_of c.sides.inn;
      code = none;
      sense = sense;
    }

-- there is one where the checks passed
abbrev pub final_response : Option Open → ℕ → List ℕ → ℕ → List ℕ
final_response none status sense delta = []
final_response (some c) status sense delta = response (final_of c status sense delta)

abbrev pub finish_checks : Port → ℕ → ℕ → ℕ → List ℕ → List Check
finish_checks p room tag status sense = short room ∷ closed p ∷ (bad_sense_lem status sense, Argument) ∷ open_checks p tag

abbrev pub finish_outcome : Port → ℕ → ℕ → List ℕ → Outcome
finish_outcome p tag status sense =
    answering (leaving p p.announced (has_tag tag)) (Ok Performed) (final_response (find (has_tag tag) p.held) status sense)

abbrev pub finish_def : Port → ℕ → ℕ → ℕ → List ℕ → Outcome
finish_def p room tag status sense = unless (first_of_checks (finish_checks p room tag status sense)) p (finish_outcome p tag status sense)

-- ── add, withdraw, grant, close

-- "Add k: W + k, D + k"
abbrev pub add_checks : Port → ℕ → List Check
add_checks p k = closed p ∷ (eqb k 0, Argument) ∷ (ltb most_buffers (p.wanted + k), Wanted) ∷ []

abbrev pub add_outcome : Port → ℕ → Outcome
add_outcome p k = silent (with_wanted p (p.wanted + k)) (Ok Performed)

abbrev pub add_def : Port → ℕ → Outcome
add_def p k = unless (first_of_checks (add_checks p k)) p (add_outcome p k)

-- "Withdraw k: W - k, D - k. W stays in 1 to 16"
abbrev pub withdraw_checks : Port → ℕ → List Check
withdraw_checks p k = closed p ∷ (eqb k 0, Argument) ∷ (leb p.wanted k, Wanted) ∷ []

abbrev pub withdraw_outcome : Port → ℕ → Outcome
withdraw_outcome p k = silent (with_wanted p (p.wanted - k)) (Ok Performed)

abbrev pub withdraw_def : Port → ℕ → Outcome
withdraw_def p k = unless (first_of_checks (withdraw_checks p k)) p (withdraw_outcome p k)

-- "One may be unanswered"; 27 where D is not above 0
abbrev pub grant_checks : Port → ℕ → List Check
grant_checks p room = short room ∷ closed p ∷ (p.unanswered, Unanswered) ∷ (eqb (due p) 0, NotOwed) ∷ []

abbrev pub grant_outcome : Port → Outcome
grant_outcome p = answering (with_unanswered p true) (Ok Performed) (credit_request p.terms.crsolnt)

abbrev pub grant_def : Port → ℕ → Outcome
grant_def p room = unless (first_of_checks (grant_checks p room)) p (grant_outcome p)

abbrev pub close_checks : Port → ℕ → List Check
close_checks p room = short room ∷ closed p ∷ []

-- "The owner may also close with a reason"
abbrev pub close_outcome : Port → ℕ → Outcome
close_outcome p reason = record { reply = Ok Performed; port = closed_port; wrote = target_logout p.terms.losolnt reason ∷ [] }

abbrev pub close_def : Port → ℕ → ℕ → Outcome
close_def p room reason = unless (first_of_checks (close_checks p room)) p (close_outcome p reason)

-- ── counters and listing

-- "the owner may read W, A, H and D while the channel is open (else 21)"
abbrev pub counters_of : Port → Counters
counters_of p = record { wanted = p.wanted; announced = p.announced; held = length p.held; owed = owed p }

abbrev pub counters_checks : Port → List Check
counters_checks p = closed p ∷ []

abbrev pub counters_outcome : Port → Outcome
counters_outcome p = silent p (Ok (Counts (counters_of p)))

abbrev pub counters_def : Port → Outcome
counters_def p = unless (first_of_checks (counters_checks p)) p (counters_outcome p)

-- "tag, LUN, bytes handed out each way", for which the listing takes h
abbrev pub record_of_lem : Open → Record
record_of_lem c =
    record { tag = c.request.tag; lun = c.request.lun; out = c.sides.out.transfer.highest; inn = c.sides.inn.transfer.highest }

-- "Records now come as the commands were taken, oldest first": take puts a command behind the others, also one with a tag used again
abbrev pub listing : Port → List Record
listing p = map record_of_lem p.held

-- "record list under 16"
abbrev pub list_checks : Port → ℕ → List Check
list_checks p room = closed p ∷ (ltb room most_buffers, Argument) ∷ []

abbrev pub list_outcome : Port → Outcome
list_outcome p = silent p (Ok (Listed (length p.held)))

abbrev pub list_def : Port → ℕ → Outcome
list_def p room = unless (first_of_checks (list_checks p room)) p (list_outcome p)

-- the records that it writes to a list of `room`: none where it is refused
abbrev pub records_by : Option Refusal → Port → List Record
records_by none p = listing p
records_by (some f) p = []

abbrev pub records_for : Port → ℕ → List Record
records_for p room = records_by (first_of_checks (list_checks p room)) p

-- the lent list after it
abbrev pub listed_into : Port → List Record → List Record
listed_into p before = over (records_for p (length before)) before
