-- What add, withdraw and grant promise. l and l' are the port's words before and after the call, b and b' the buffer; whatever the store holds.
use Rattle.std.specs.Prelude.{◌≡◌, ◌≢◌, true, List, [], ◌∷◌, ℕ, ◌≤◌, eqb, length, Result, Ok, Err}
use Rattle.srp.specs.Limits.{buffer_size, most_buffers}
use Rattle.srp.specs.Take.{closed}
use Rattle.srp.specs.Calls.{add_def, withdraw_def, grant_checks, grant_outcome, grant_def}
use Rattle.srp.specs.declared.Refusal.{Refusal}
use Rattle.srp.specs.declared.Refusal.TheVariants.{Argument}
use Rattle.srp.specs.declared.Reply.{Reply}
use Rattle.srp.specs.declared.Answer.{Answer}
use Rattle.words.specs.Head.{head_of}
use Rattle.words.specs.declared.Head.{Head}
use Rattle.state.specs.Opening.{Draws, Passes, OpenHead}
use Rattle.state.specs.Promises.{RepliesWith, AnswersWith}

-- the channel is open, w its W, and k not 0
pub record Changeable (l : List ℕ) (k w : ℕ) : Type 0 where
  pub live : (head_of l).live ≡ true
  pub wanted : w ≡ (head_of l).wanted
  pub most : w ≤ most_buffers
  pub some : k ≢ 0

-- the checks that add and withdraw share
abbrev pub MayChange : (l : List ℕ) (k : ℕ) → Result Head Refusal → Type 0
MayChange l k (Ok h) = Changeable l k h.wanted
MayChange l k (Err f) = Draws l (λ p. closed p ∷ (eqb k 0, Argument) ∷ []) f

abbrev pub Adds : (l l' : List ℕ) (k : ℕ) → Result Reply Refusal → Type 0
Adds l l' k r = RepliesWith l l' r (λ p. add_def p k)

abbrev pub Withdraws : (l l' : List ℕ) (k : ℕ) → Result Reply Refusal → Type 0
Withdraws l l' k r = RepliesWith l l' r (λ p. withdraw_def p k)

abbrev pub Grants : (l b l' b' : List ℕ) → Answer → Type 0
Grants l b l' b' r = AnswersWith l b l' b' r (λ p. grant_def p (length b))

-- no check of grant hits, and h is the head
pub record Grantable (l : List ℕ) (room : ℕ) (h : Head) : Type 0 where
  pub head : OpenHead l h
  pub enough : buffer_size ≤ room
  pub passes : Passes l (λ p. grant_checks p room)

abbrev pub MayGrant : (l : List ℕ) (room : ℕ) → Result Head Refusal → Type 0
MayGrant l room (Ok h) = Grantable l room h
MayGrant l room (Err f) = Draws l (λ p. grant_checks p room) f

-- behind its checks
abbrev pub WritesRequest : (l b l' b' : List ℕ) → Answer → Type 0
WritesRequest l b l' b' r = AnswersWith l b l' b' r grant_outcome
