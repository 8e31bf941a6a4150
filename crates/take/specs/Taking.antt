-- Take, cut where the code is cut, and what each part promises. l, st and b are the port's words, its store and the lent buffer before the call, l', st'
-- and b' after it; s is the message.
use Rattle.std.specs.Prelude.{◌≡◌, Bool, true, false, not, ◌&&◌, List, [], ◌∷◌, ℕ, ◌/◌, ◌%◌, ◌≤◌, eqb, length, Option, Some, None, Result, Ok, Err}
use Rattle.srp.specs.Refusals.{Check, first_of_checks, hangs_up, conduct_of, reason_in}
use Rattle.srp.specs.Descriptors.{standing, given, chosen, segments, sum_of, good_fields}
use Rattle.srp.specs.Requests.{Reading, read_message_lem}
use Rattle.srp.specs.Credit.{Port}
use Rattle.srp.specs.Writing.{answer, solicited}
use Rattle.srp.specs.Take.{Outcome, answering, hang_up_lem, is_open_lem, no_tables, given_in, waits, fields_fit, new_open, later_checks, accepted, take_by, take_def}
use Rattle.srp.specs.declared.Refusal.{Refusal}
use Rattle.srp.specs.declared.Refusal.TheVariants.{Fields, NoCredit, TagOpen}
use Rattle.srp.specs.declared.Request.{Request}
use Rattle.srp.specs.declared.Command.{Command}
use Rattle.srp.specs.declared.TaskRequest.{TaskRequest}
use Rattle.srp.specs.declared.Descriptor.{Descriptor}
use Rattle.srp.specs.declared.Message.TheVariants.{Cmd, TskMgmt, CredRsp, ILogout}
use Rattle.srp.specs.declared.Reply.{Reply}
use Rattle.srp.specs.declared.Reply.TheVariants.{NewCommand}
use Rattle.srp.specs.declared.Answer.{Answer}
use Rattle.words.specs.Head.{head_of}
use Rattle.words.specs.View.{view}
use Rattle.words.specs.declared.Part.{Part}
use Rattle.words.specs.declared.Awaited.{Awaited}
use Rattle.state.specs.Changes.{after_use}
use Rattle.state.specs.Opening.{Draws, Passes}
use Rattle.state.specs.Promises.{AnswersAs, AnswersWith}
use Rattle.store.specs.Places.{Holds, OwnPlace, new_part_lem, new_slot, open_in}

-- ── the definition's parts

-- take of what a message says, behind 1 and 21
abbrev pub later_def : Port → List ℕ → Reading → Outcome
later_def p s m = take_by (first_of_checks (later_checks p s m)) p s m

-- 22 and 23, of a request with a tag
abbrev pub entry_checks : ℕ → Port → List Check
entry_checks tag p = (eqb p.announced 0, NoCredit) ∷ (is_open_lem p tag, TagOpen) ∷ []

-- take of a command behind 22 and 23
abbrev pub fields_def : Port → List ℕ → Command → Outcome
fields_def p s c = take_by (first_of_checks ((not (waits c) && not (fields_fit (given_in c s) no_tables), Fields) ∷ [])) p s (Ok (Cmd c))

-- ── the store

-- a reply that says that a command was taken
abbrev pub takes_command : Result Reply Refusal → Bool
takes_command (Ok (NewCommand tag lun cdb waits)) = true
takes_command r = false

-- the store is lent memory: unless a command was taken every byte of it is as it was; a command taken changes the bytes of its own place and no other
pub record Stores (l st l' st' : List ℕ) (r : Result Reply Refusal) : Type 0 where
  pub kept : takes_command r ≡ false → st' ≡ st
  pub entered : takes_command r ≡ true → OwnPlace (head_of l).held l st l' st'

-- ── what the parts promise

abbrev pub HangsUp : (l b l' b' : List ℕ) → Refusal → Answer → Type 0
HangsUp l b l' b' f r = AnswersWith l b l' b' r (λ p. hang_up_lem p f (reason_in (conduct_of f)))

-- a refusal at which take hangs up
abbrev pub HangsUpAt : Refusal → Type 0
HangsUpAt f = conduct_of f ≡ hangs_up (reason_in (conduct_of f))

-- 22 and 23: the request may be taken
pub record Admitted (l : List ℕ) (tag : ℕ) : Type 0 where
  pub credit : 1 ≤ (head_of l).announced
  pub passes : Passes l (entry_checks tag)

pub record Refused (l : List ℕ) (checks : Port → List Check) (f : Refusal) : Type 0 where
  pub draws : Draws l checks f
  pub hangs : HangsUpAt f

abbrev pub Admits : List ℕ → ℕ → Result Unit Refusal → Type 0
Admits l tag (Ok u) = Admitted l tag
Admits l tag (Err f) = Refused l (entry_checks tag) f

-- a request that ends at once uses its own credit, and its answer carries what is due
abbrev pub Answers : (l b l' b' : List ℕ) → Request → ℕ → Result Reply Refusal → Answer → Type 0
Answers l b l' b' q code y r = AnswersWith l b l' b' r (λ p. answering (after_use 1 p) y (answer (solicited q code) q.tag code))

-- a task request, where no check hits
abbrev pub EndsTask : (l b l' b' : List ℕ) → TaskRequest → Answer → Type 0
EndsTask l b l' b' t r = (st s : List ℕ) → AnswersAs l st b l' st b' r (accepted (view l st) s (Ok (TskMgmt t)))

-- a message that needs neither store nor buffer, where no check hits
abbrev pub Accepts : (l l' : List ℕ) → Reading → Answer → Type 0
Accepts l l' m r = (st b s : List ℕ) → AnswersAs l st b l' st b r (accepted (view l st) s m)

-- a credit response
abbrev pub SettlesCredit : (l l' : List ℕ) → ℕ → Result Answer Refusal → Type 0
SettlesCredit l l' g (Ok r) = Passes l (λ p. later_checks p [] (Ok (CredRsp g))) × Accepts l l' (Ok (CredRsp g)) r
SettlesCredit l l' g (Err f) = (l' ≡ l) × Refused l (λ p. later_checks p [] (Ok (CredRsp g))) f

abbrev pub LogsOut : (l l' : List ℕ) → Answer → Type 0
LogsOut l l' r = Accepts l l' (Ok ILogout) r

-- the direction d of the message s, of which no table is fetched, passes 10: what is kept of it
pub record Kept (s : List ℕ) (d : Descriptor) (p : Part) : Type 0 where
  pub good : good_fields (given d s) [] ≡ true
  pub stands : chosen (given d s) [] ≡ standing d s
  pub whole : length (standing d s) % 16 ≡ 0
  pub part : p ≡ new_part_lem (length (standing d s) / 16) (sum_of (segments (given d s) []))

abbrev pub PartRead : List ℕ → Descriptor → Option Part → Type 0
PartRead s d (Some p) = Kept s d p
PartRead s d None = good_fields (given d s) [] ≡ false

-- the directions o and n, with what is awaited, are those of the command c, where what stands in the message s is stored
pub record NewlyRead (s : List ℕ) (c : Command) (o n : Part) (a : Awaited) : Type 0 where
  pub waits : a.waiting ≡ waits c
  pub out : Holds (standing c.out s) o a.out
  pub inn : Holds (standing c.inn s) n a.inn
  pub opens : open_in (standing c.out s) (standing c.inn s) (new_slot c.request 0 o n a) ≡ new_open c s

-- a command: where no check hits, which leaves the buffer; from 10 on
pub record Enters (l st l' st' s : List ℕ) (c : Command) (r : Answer) : Type 0 where
  pub answers : (b : List ℕ) → AnswersAs l st b l' st' b r (accepted (view l st) s (Ok (Cmd c)))
  pub store : Stores l st l' st' r.reply

pub record DecidesFields (l st b l' st' b' s : List ℕ) (c : Command) (r : Answer) : Type 0 where
  pub answers : AnswersAs l st b l' st' b' r (fields_def (view l st) s c)
  pub store : Stores l st l' st' r.reply

-- behind 1 and 21: the message is answered, or draws a refusal at which the channel is hung up, and nothing is altered yet
abbrev pub decided : Port → List ℕ → Outcome
decided p s = later_def p s (read_message_lem p.terms.agreed p.terms.formats s)

pub record Decided (l st b l' st' b' s : List ℕ) (r : Answer) : Type 0 where
  pub answers : AnswersAs l st b l' st' b' r (decided (view l st) s)
  pub store : Stores l st l' st' r.reply

pub record Hangs (l st b l' st' b' s : List ℕ) (f : Refusal) : Type 0 where
  pub words : l' ≡ l
  pub store : st' ≡ st
  pub buffer : b' ≡ b
  pub outcome : decided (view l st) s ≡ hang_up_lem (view l st) f (reason_in (conduct_of f))

abbrev pub Decides : (l st b l' st' b' s : List ℕ) → Result Answer Refusal → Type 0
Decides l st b l' st' b' s (Ok r) = Decided l st b l' st' b' s r
Decides l st b l' st' b' s (Err f) = Hangs l st b l' st' b' s f

-- the call
pub record Takes (l st b l' st' b' s : List ℕ) (r : Answer) : Type 0 where
  pub answers : AnswersAs l st b l' st' b' r (take_def (view l st) (length b) s)
  pub store : Stores l st l' st' r.reply
