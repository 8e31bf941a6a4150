-- Finish, cut where the code is cut, and what it promises.
use Rattle.std.specs.Prelude.{◌≡◌, true, List, ℕ, ◌≤◌, length, Result, Ok, Err}
use Rattle.srp.specs.Limits.{buffer_size, longest_sense}
use Rattle.srp.specs.Calls.{final_of, finish_checks, finish_outcome, finish_def}
use Rattle.srp.specs.declared.Refusal.{Refusal}
use Rattle.srp.specs.declared.Answer.{Answer}
use Rattle.words.specs.View.{open_of}
use Rattle.words.specs.declared.Slot.{Slot}
use Rattle.message.specs.Header.{response_of}
use Rattle.message.specs.declared.Header.{Header}
use Rattle.words.specs.Head.{head_of}
use Rattle.state.specs.Changes.{FoundAt}
use Rattle.state.specs.Opening.{Draws, Passes}
use Rattle.state.specs.Promises.{AnswersWith}

-- the header says the response of the command in slot c, whatever the store and the sense
abbrev pub HeaderIs : Slot → (status delta : ℕ) → Header → Type 0
HeaderIs c status delta h = (st sense : List ℕ) → response_of h sense ≡ final_of (open_of st c) status sense delta

-- ── promises: l and l' are the port's words before and after the call, b and b' the lent buffer

abbrev pub Finishes : (l b l' b' : List ℕ) (tag status : ℕ) (sense : List ℕ) → Answer → Type 0
Finishes l b l' b' tag status sense r = AnswersWith l b l' b' r (λ p. finish_def p (length b) tag status sense)

-- no check hits, and slot i has the command
pub record Finishable (l : List ℕ) (tag status : ℕ) (sense : List ℕ) (room i : ℕ) : Type 0 where
  pub live : (head_of l).live ≡ true
  pub found : FoundAt l tag i
  pub enough : buffer_size ≤ room
  pub short : length sense ≤ longest_sense
  pub passes : Passes l (λ p. finish_checks p room tag status sense)

abbrev pub MayFinish : (l : List ℕ) (tag status : ℕ) (sense : List ℕ) (room : ℕ) → Result ℕ Refusal → Type 0
MayFinish l tag status sense room (Ok i) = Finishable l tag status sense room i
MayFinish l tag status sense room (Err f) = Draws l (λ p. finish_checks p room tag status sense) f

-- of an open command
abbrev pub EndsCommand : (l b l' b' : List ℕ) (tag status : ℕ) (sense : List ℕ) → Answer → Type 0
EndsCommand l b l' b' tag status sense r = AnswersWith l b l' b' r (λ p. finish_outcome p tag status sense)
