-- Document 02, job 7: "a new call brings the tables by tag". "Refusals 9 and 10 are made there in such cases, 10 still answering the command".
use Rattle.std.specs.Prelude.{Bool, false, not, List, [], ◌∷◌, ℕ, Ok, Err}
use Rattle.std.proofs.Math.Option.{Option, none, some}
use Rattle.srp.specs.Lists.{find, change, is_some}
use Rattle.srp.specs.Both.{Both}
use Rattle.srp.specs.Refusals.{Conduct, hangs_up, answered, stays, alters_nothing, conduct_of, Check, first_of_checks, short}
use Rattle.srp.specs.Descriptors.{Segment, Given}
use Rattle.srp.specs.Credit.{Held, Open, has_tag, Port, with_held}
use Rattle.srp.specs.Writing.{answer}
use Rattle.srp.specs.Take.{Outcome, silent, answering, closed, is_open_lem, leaving, Tables, tables_fit, fields_fit, ready, new_side}
use Rattle.srp.specs.declared.Refusal.{Refusal}
use Rattle.srp.specs.declared.Refusal.TheVariants.{TableLength, Fields, TagNotOpen, Waiting}
use Rattle.srp.specs.declared.Reply.TheVariants.{Performed}

-- what the tables of a command that waits are judged by
abbrev pub awaited_by : {S : Type 0} → Option (Held S) → Option (Both Given)
awaited_by none = none
awaited_by (some c) = c.awaits

abbrev pub is_waiting : {S : Type 0} → Option (Held S) → Bool
is_waiting c = is_some (awaited_by c)

-- 9: they are not of F bytes each
abbrev pub bad_lengths : Option (Both Given) → Tables → Bool
bad_lengths none t = false
bad_lengths (some g) t = not (tables_fit g t)

-- 10, by both directions' fields, also of one without a table
abbrev pub bad_tables : Option (Both Given) → Tables → Bool
bad_tables none t = false
bad_tables (some g) t = not (fields_fit g t)

-- "33 .. tables for one that isn't waiting; directly after 24"
abbrev pub tables_checks : Port → ℕ → ℕ → Tables → List Check
tables_checks p room tag t =
    let c : Option Open = find (has_tag tag) p.held in
    short room
    ∷ closed p
    ∷ (not (is_open_lem p tag), TagNotOpen)
    ∷ (not (is_waiting c), Waiting)
    ∷ (bad_lengths (awaited_by c) t, TableLength)
    ∷ (bad_tables (awaited_by c) t, Fields)
    ∷ []

-- the command with its tables; its age, tag and place stay
abbrev pub brought_to : {S : Type 0} → Option (Both Given) → (List Segment → S) → Tables → Held S → Held S
brought_to none new t c = c
brought_to (some g) new t c = ready new c.request g t

abbrev pub brought : {S : Type 0} → (List Segment → S) → Tables → Held S → Held S
brought new t c = brought_to c.awaits new t c

-- code 02h, as take's 10 answers; there is a command where 10 is drawn
abbrev pub bad_response : Option Open → ℕ → List ℕ
bad_response none delta = []
bad_response (some c) delta = answer c.request.ucsolnt c.request.tag 0x02 delta

-- "10 still answering the command", which it ends; "every other refusal returns its number and alters nothing"
abbrev pub tables_refused : Conduct → Port → ℕ → Refusal → Outcome
tables_refused (hangs_up reason) p tag r = silent p (Err r)
tables_refused answered p tag r =
    answering (leaving p p.announced (has_tag tag)) (Err r) (bad_response (find (has_tag tag) p.held))
tables_refused stays p tag r = silent p (Err r)
tables_refused alters_nothing p tag r = silent p (Err r)

-- the command waits no longer
abbrev pub tables_outcome : Port → ℕ → Tables → Outcome
tables_outcome p tag t = silent (with_held p p.announced (change (has_tag tag) (brought new_side t) p.held)) (Ok Performed)

abbrev pub tables_by : Option Refusal → Port → ℕ → Tables → Outcome
tables_by none p tag t = tables_outcome p tag t
tables_by (some r) p tag t = tables_refused (conduct_of r) p tag r

-- the tables t for the command with the tag, with `room` bytes of lent buffer
abbrev pub tables_def : Port → ℕ → ℕ → Tables → Outcome
tables_def p room tag t = tables_by (first_of_checks (tables_checks p room tag t)) p tag t
