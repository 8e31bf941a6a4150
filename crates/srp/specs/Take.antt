-- Document 01, and document 02, jobs 7 and 8: take, with its checks, hang_ups, refusal 10, task management, credit responses and the initiator's logout.
use Rattle.std.specs.Prelude.{Bool, true, false, cond, not, ◌&&◌, ◌||◌, List, [], ◌∷◌, ◌++◌, ℕ, ◌+◌, ◌-◌, eqb, length, Result, Ok, Err}
use Rattle.std.proofs.Math.Option.{Option, none, some}
use Rattle.srp.specs.Limits.{credit_tag}
use Rattle.srp.specs.Lists.{find, without, is_some}
use Rattle.srp.specs.Both.{Both, along}
use Rattle.srp.specs.Refusals.{Conduct, hangs_up, answered, stays, alters_nothing, conduct_of, Check, first_of_checks, short}
use Rattle.srp.specs.Descriptors.{Segment, Given, given, segments, sum_of, fetched, good_fields}
use Rattle.srp.specs.Requests.{Reading, read_message_lem}
use Rattle.srp.specs.Credit.{Side, unmoved, Held, Open, has_tag, Port, closed_port, due, with_moves, with_held, with_unanswered}
use Rattle.srp.specs.Line.{left_by}
use Rattle.srp.specs.Writing.{answer, target_logout, solicited}
use Rattle.srp.specs.declared.Refusal.{Refusal}
use Rattle.srp.specs.declared.Refusal.TheVariants.{Fields, Closed, NoCredit, TagOpen, CreditResponse}
use Rattle.srp.specs.declared.Request.{Request}
use Rattle.srp.specs.declared.Command.{Command}
use Rattle.srp.specs.declared.TaskRequest.{TaskRequest}
use Rattle.srp.specs.declared.Message.TheVariants.{Cmd, TskMgmt, CredRsp, ILogout}
use Rattle.srp.specs.declared.Reply.{Reply}
use Rattle.srp.specs.declared.Reply.TheVariants.{NewCommand, TaskAnswered, CreditSettled, LoggedOut}

-- ── what a call does

-- its reply, the port after it, and what it wrote: no message or one
pub record Outcome : Type 0 where
  pub reply : Result Reply Refusal
  pub port : Port
  pub wrote : List (List ℕ)

-- nothing is written
abbrev pub silent : Port → Result Reply Refusal → Outcome
silent p r = record { reply = r; port = p; wrote = [] }

-- p has the endings of the call already: "delta = the larger of D and 0, after the endings of that call; then A + delta, D - delta"
abbrev pub answering : Port → Result Reply Refusal → (ℕ → List ℕ) → Outcome
answering p r message = record { reply = r; port = with_held p (p.announced + due p) p.held; wrote = message (due p) ∷ [] }

-- "write SRP_T_LOGOUT, drop all commands and close"
abbrev pub hang_up_lem : Port → Refusal → ℕ → Outcome
hang_up_lem p r reason = record { reply = Err r; port = closed_port; wrote = target_logout p.terms.losolnt reason ∷ [] }

abbrev pub closed : Port → Check
closed p = (not p.live, Closed)

abbrev pub is_open_lem : Port → ℕ → Bool
is_open_lem p tag = is_some (find (has_tag tag) p.held)

-- with A = a and without the commands that `ends` tells, whose moves leave the line
abbrev pub leaving : Port → (a : ℕ) → (ends : Open → Bool) → Port
leaving p a ends = with_moves p a (without ends p.held) (left_by ends p.held p.line)

-- ── a command

-- the tables lent for a command
abbrev pub Tables : Type 0
Tables = Both (List ℕ)

abbrev pub no_tables : Tables
no_tables = record { out = []; inn = [] }

-- both directions of the command c of the message s
abbrev pub given_in : Command → List ℕ → Both Given
given_in c s = record { out = given c.out s; inn = given c.inn s }

-- "F bytes each"
abbrev pub tables_fit : Both Given → Tables → Bool
tables_fit g t = eqb (length t.out) (fetched g.out.descriptor) && eqb (length t.inn) (fetched g.inn.descriptor)

abbrev pub fields_fit : Both Given → Tables → Bool
fields_fit g t = good_fields g.out t.out && good_fields g.inn t.inn

-- "with a fetch named", in either direction
abbrev pub waits : Command → Bool
waits c = not (eqb (fetched c.out) 0 && eqb (fetched c.inn) 0)

-- a command with its tables, where `new` makes a direction of its segments
abbrev pub ready : {S : Type 0} → (List Segment → S) → Request → Both Given → Tables → Held S
ready new r g t = record { request = r; awaits = none; planned = false; sides = along (λ d table. new (segments d table)) g t }

-- "the command is open and waiting": no segment is known
abbrev pub waiting : {S : Type 0} → (List Segment → S) → Request → Both Given → Held S
waiting new r g = record { request = r; awaits = some g; planned = false; sides = record { out = new []; inn = new [] } }

-- the command c of the message s
abbrev pub newly_held : {S : Type 0} → (List Segment → S) → Command → List ℕ → Held S
newly_held new c s = cond (waits c) (waiting new c.request (given_in c s)) (ready new c.request (given_in c s) no_tables)

abbrev pub new_side : List Segment → Side
new_side ss = record { extent = record { segs = ss; total = sum_of ss }; transfer = unmoved }

abbrev pub new_open : Command → List ℕ → Open
new_open c s = newly_held new_side c s

-- ── task management

-- "02h, 04h and 08h abort all open commands of the LUN"
abbrev pub whole_lun_lem : ℕ → Bool
whole_lun_lem function = eqb function 2 || (eqb function 4 || eqb function 8)

-- "01h aborts the open command with that tag and LUN, if any"
abbrev pub aborts : TaskRequest → Request → Bool
aborts t r = eqb t.request.lun r.lun && (whole_lun_lem t.function || (eqb t.function 1 && eqb t.managed r.tag))

abbrev pub aborted : {S : Type 0} → TaskRequest → Held S → Bool
aborted t c = aborts t c.request

-- "These answer RSP_CODE 00h. 40h answers 04h, any other value 02h"
abbrev pub task_code : ℕ → ℕ
task_code function = cond (eqb function 1 || whole_lun_lem function) 0x00 (cond (eqb function 0x40) 0x04 0x02)

-- ── take

-- behind 1 and 21: "22, 23, 9, 10", of which 9, and 10 where a fetch is named, are drawn by tables; "SRP_CRED_RSP has 25 after its 3"
abbrev pub later_checks : Port → List ℕ → Reading → List Check
later_checks p s (Err r) = (true, r) ∷ []
later_checks p s (Ok (Cmd c)) =
    (eqb p.announced 0, NoCredit) ∷ (is_open_lem p c.request.tag, TagOpen) ∷ (not (waits c) && not (fields_fit (given_in c s) no_tables), Fields) ∷ []
later_checks p s (Ok (TskMgmt k)) = (eqb p.announced 0, NoCredit) ∷ (is_open_lem p k.request.tag, TagOpen) ∷ []
later_checks p s (Ok (CredRsp g)) = (not (p.unanswered && eqb g credit_tag), CreditResponse) ∷ []
later_checks p s (Ok ILogout) = []

abbrev pub take_checks : Port → ℕ → List ℕ → Reading → List Check
take_checks p room s m = short room ∷ closed p ∷ later_checks p s m

-- the request that a message is, and this where it is none: only a command draws 10
abbrev pub no_request : Request
no_request = record { tag = 0; lun = 0; ucsolnt = false; scsolnt = false }

abbrev pub request_in : Reading → Request
request_in (Err r) = no_request
request_in (Ok (Cmd c)) = c.request
request_in (Ok (TskMgmt k)) = k.request
request_in (Ok (CredRsp g)) = no_request
request_in (Ok ILogout) = no_request

-- "Refusal 10 is taken and answered in the same call", with code 02h
abbrev pub answer_bad_lem : Port → Reading → Refusal → Outcome
answer_bad_lem p m r = answering (with_held p (p.announced - 1) p.held) (Err r) (answer (request_in m).ucsolnt (request_in m).tag 0x02)

-- "Every other refusal returns its number and alters nothing"
abbrev pub conducted : Conduct → Port → Reading → Refusal → Outcome
conducted (hangs_up reason) p m r = hang_up_lem p r reason
conducted answered p m r = answer_bad_lem p m r
conducted stays p m r = silent p (Err r)
conducted alters_nothing p m r = silent p (Err r)

abbrev pub refused_by : Port → Reading → Refusal → Outcome
refused_by p m r = conducted (conduct_of r) p m r

-- a message that draws no refusal; a bad one draws its own
abbrev pub accepted : Port → List ℕ → Reading → Outcome
accepted p s (Err r) = refused_by p (Err r) r
-- "Taking a request: A - 1, H + 1"; the commands stand in the order of taking; one that waits "counts as held from the moment it was taken"
accepted p s (Ok (Cmd c)) =
    silent (with_held p (p.announced - 1) (p.held ++ (new_open c s ∷ []))) (Ok (NewCommand c.request.tag c.request.lun c.cdb (waits c)))
-- a task request ends in the same call, as do the commands that it aborts
accepted p s (Ok (TskMgmt k)) =
    answering (leaving p (p.announced - 1) (aborted k)) (Ok (TaskAnswered k.request.tag k.request.lun))
    (answer (solicited k.request (task_code k.function)) k.request.tag (task_code k.function))
-- "settles it and uses no credit"
accepted p s (Ok (CredRsp g)) = silent (with_unanswered p false) (Ok CreditSettled)
-- "Logout closes the channel, drops open commands, writes nothing"
accepted p s (Ok ILogout) = silent closed_port (Ok LoggedOut)

abbrev pub take_by : Option Refusal → Port → List ℕ → Reading → Outcome
take_by none p s m = accepted p s m
take_by (some r) p s m = refused_by p m r

-- a message that is read already
abbrev pub take_read : Port → ℕ → List ℕ → Reading → Outcome
take_read p room s m = take_by (first_of_checks (take_checks p room s m)) p s m

-- take of the message s, with `room` bytes of lent buffer
abbrev pub take_def : Port → ℕ → List ℕ → Outcome
take_def p room s = take_read p room s (read_message_lem p.terms.agreed p.terms.formats s)
