-- Document 01, "From the message or the caller" and "From what went before", and document 02, jobs 1 and 7: the refusals' numbers, what take does at each, and
-- which check comes first.
use Rattle.std.specs.Prelude.{Bool, cond, List, [], ◌∷◌, ℕ, ltb, eqb, Result, Err}
use Rattle.std.proofs.Math.Option.{Option, none, some}
use Rattle.srp.specs.Lists.{find}
use Rattle.srp.specs.Limits.{buffer_size}
use Rattle.srp.specs.declared.Refusal.{Refusal}
use Rattle.srp.specs.declared.Refusal.TheVariants.{ShortBuffer, Setting, Length, OtherType, OutFormat, InFormat, OutCount, InCount, TableLength, Fields, Argument, Closed, NoCredit, TagOpen, TagNotOpen, CreditResponse, Unanswered, NotOwed, Wanted, Unplanned, Planned, Offset, Unfinished, Waiting}

-- what a take that draws a refusal does; of the other calls, tables too answers the command that draws 10, and else a refusal alters nothing
pub data Conduct : Type 0 where
  -- "write SRP_T_LOGOUT, drop all commands and close"
  hangs_up : (reason : ℕ) → Conduct
  -- "is taken and answered in the same call"
  answered : Conduct
  -- "returns its number and alters nothing"; and "the message stays there", in its queue
  stays : Conduct
  -- the same, but the message leaves its queue
  alters_nothing : Conduct

-- each refusal's number, and what a take that draws it does: "Take's 3 to 8, 22, 23 and 25 write SRP_T_LOGOUT ..; reasons 0, but 6, 7, 8, 9 for
-- 5, 6, 7, 8. Refusal 10 is taken and answered"; "On refusals 1 and 9 the message stays there, else it leaves", of which take draws 1 alone, since
-- "Refusals 9 and 10 are made there", in tables (document 02, job 7)
abbrev pub entry : Refusal → ℕ × Conduct
-- from the message or the caller
entry ShortBuffer = (1, stays)
entry Setting = (2, alters_nothing)
entry Argument = (11, alters_nothing)
entry Length = (3, hangs_up 0)
entry OtherType = (4, hangs_up 0)
entry OutFormat = (5, hangs_up 6)
entry InFormat = (6, hangs_up 7)
entry OutCount = (7, hangs_up 8)
entry InCount = (8, hangs_up 9)
entry TableLength = (9, alters_nothing)
entry Fields = (10, answered)
-- from what went before
entry Closed = (21, alters_nothing)
entry NoCredit = (22, hangs_up 0)
entry TagOpen = (23, hangs_up 0)
entry TagNotOpen = (24, alters_nothing)
entry CreditResponse = (25, hangs_up 0)
entry Unanswered = (26, alters_nothing)
entry NotOwed = (27, alters_nothing)
entry Wanted = (28, alters_nothing)
entry Unplanned = (29, alters_nothing)
entry Planned = (30, alters_nothing)
-- from document 02
entry Offset = (31, alters_nothing)
entry Unfinished = (32, alters_nothing)
entry Waiting = (33, alters_nothing)

abbrev pub number_of : Refusal → ℕ
number_of r = (entry r).0

abbrev pub conduct_of : Refusal → Conduct
conduct_of r = (entry r).1

-- all of them, and the one with a number: no refusal has 0
abbrev pub refusals : List Refusal
refusals =
    ShortBuffer ∷ Setting ∷ Length ∷ OtherType ∷ OutFormat ∷ InFormat ∷ OutCount ∷ InCount ∷ TableLength ∷ Fields ∷ Argument
    ∷ Closed ∷ NoCredit ∷ TagOpen ∷ TagNotOpen ∷ CreditResponse ∷ Unanswered ∷ NotOwed ∷ Wanted ∷ Unplanned ∷ Planned
    ∷ Offset ∷ Unfinished ∷ Waiting ∷ []

abbrev pub refusal_numbered : ℕ → Option Refusal
refusal_numbered n = find (λ (r : Refusal). eqb n (number_of r)) refusals

-- the reason of a hang-up, 0 where there is none
abbrev pub reason_in : Conduct → ℕ
reason_in (hangs_up reason) = reason
reason_in answered = 0
reason_in stays = 0
reason_in alters_nothing = 0

-- a test, and the refusal where it hits
abbrev pub Check : Type 0
Check = Bool × Refusal

-- the first that hits, of checks with their refusals or their reasons
abbrev pub first_of_checks : {A : Type 0} → List (Bool × A) → Option A
first_of_checks [] = none
first_of_checks (c ∷ cs) = cond c.0 (some c.1) (first_of_checks cs)

-- an answer, unless a check hit
abbrev pub unless_bad : {A : Type 0} → Option Refusal → Result A Refusal → Result A Refusal
unless_bad none x = x
unless_bad (some r) x = Err r

abbrev pub short : ℕ → Check
short room = (ltb room buffer_size, ShortBuffer)
