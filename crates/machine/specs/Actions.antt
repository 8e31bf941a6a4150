-- What an event of demand 3 is: when it may happen, the call that it makes, that call's checks by the machine's own counts, what it does to the machine,
-- what it writes, and what its reply must be; and what is the same in many of them. The events themselves are specs/Events.antt.
use Rattle.std.specs.Prelude.{◌≡◌, Bool, false, List, [], ◌∷◌, ℕ, Result, Ok}
use Rattle.std.proofs.Math.Option.{Option, none, some}
use Rattle.srp.specs.Refusals.{Conduct, hangs_up, answered, stays, alters_nothing, conduct_of, Check}
use Rattle.srp.specs.Credit.{Port}
use Rattle.srp.specs.Take.{Outcome, silent}
use Rattle.srp.specs.Answers.{refusal_in}
use Rattle.srp.specs.declared.Refusal.{Refusal}
use Rattle.srp.specs.declared.Reply.{Reply}
use Rattle.srp.specs.declared.Reply.TheVariants.{Performed}
use Rattle.machine.specs.Machine.{Machine}

pub record Action : Type 1 where
  -- when it may happen
  pub allowed : Machine → Type 0
  -- the call that it makes on the port
  pub call : Port → Machine → Outcome
  -- the papers' checks of that call, by the machine's own counts; 21 is not among them, since closing ends the list
  pub checks : Machine → List Check
  -- the machine after it, by the call's reply, before what was written joins the queue
  pub effect : Machine → Result Reply Refusal → Machine
  -- the types of the messages written, by the reply: what document 01 has the call write, and nothing else
  pub writes : Machine → Result Reply Refusal → List ℕ
  -- whether the channel is closed by what was taken
  pub closes : Machine → Result Reply Refusal → Bool
  -- what demand 3 asks of the reply and of the messages written
  pub answer : Machine → Result Reply Refusal → List (List ℕ) → Type 0

-- where nothing is said
abbrev pub always : Machine → Type 0
always m = Unit {0}

abbrev pub anything : Machine → Result Reply Refusal → List (List ℕ) → Type 0
anything m r ss = Unit {0}

-- the one or the other, by whether a call was refused
abbrev pub unless_refused : {A : Type 0} → Option Refusal → A → A → A
unless_refused none refused unrefused = unrefused
unless_refused (some f) refused unrefused = refused

-- whether a refusal of tables answers the command, which ends it, or "alters nothing"
abbrev pub if_answered : {A : Type 0} → Conduct → A → A → A
if_answered (hangs_up reason) ended unchanged = unchanged
if_answered answered ended unchanged = ended
if_answered stays ended unchanged = unchanged
if_answered alters_nothing ended unchanged = unchanged

-- what tables do: the command gets them, has ended, or is as it was
abbrev pub by_tables : {A : Type 0} → Option Refusal → A → A → A → A
by_tables none brought ended unchanged = brought
by_tables (some f) brought ended unchanged = if_answered (conduct_of f) ended unchanged

-- "With an empty queue no take or delivery happens"
abbrev pub at_front : {A : Type 0} → List (List ℕ) → A → (List ℕ → List (List ℕ) → A) → A
at_front [] nothing f = nothing
at_front (s ∷ ss) nothing f = f s ss

-- what happens between the initiator and the queues: no call is made
abbrev pub between : (Machine → Type 0) → (Machine → Machine) → Action
between allowed effect =
    record {
      allowed = allowed;
      call = λ p m. silent p (Ok Performed);
      checks = λ m. [];
      effect = λ m r. effect m;
      writes = λ m r. [];
      closes = λ m r. false;
      answer = anything;
    }

-- a call of the owner's; its effect, what it writes and what is asked of that and of its reply are those of a call that is not refused:
-- "Else a call, refused or not, changes none of this"
pub record Owners : Type 1 where
  pub call : Port → Outcome
  pub checks : Machine → List Check
  pub effect : Machine → Result Reply Refusal → Machine
  pub writes : List ℕ
  pub answer : Machine → Result Reply Refusal → List (List ℕ) → Type 0

abbrev pub by_owner : Owners → Action
by_owner o =
    record {
      allowed = always;
      call = λ p m. o.call p;
      checks = o.checks;
      effect = λ m r. unless_refused (refusal_in r) m (o.effect m r);
      writes = λ m r. unless_refused (refusal_in r) [] o.writes;
      closes = λ m r. false;
      answer = λ m r ss. refusal_in r ≡ none → o.answer m r ss;
    }
