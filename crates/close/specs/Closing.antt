-- What the end of a channel by the target promises. l and l' are the port's words before and after the call, b and b' the buffer; whatever the
-- store holds.
use Rattle.std.specs.Prelude.{List, [], ◌∷◌, ℕ, length, Result}
use Rattle.srp.specs.Credit.{Port, closed_port}
use Rattle.srp.specs.Writing.{target_logout}
use Rattle.srp.specs.Take.{Outcome}
use Rattle.srp.specs.Calls.{close_def}
use Rattle.srp.specs.declared.Reply.{Reply}
use Rattle.srp.specs.declared.Answer.{Answer}
use Rattle.state.specs.Promises.{AnswersWith}
use Rattle.srp.specs.declared.Refusal.{Refusal}

-- "write SRP_T_LOGOUT, drop all commands and close", behind the checks of the call: a hang-up by its refusal, the owner's close where it is performed
abbrev pub logged_out : Result Reply Refusal → ℕ → Port → Outcome
logged_out reply reason p = record { reply = reply; port = closed_port; wrote = target_logout p.terms.losolnt reason ∷ [] }

abbrev pub LogsOut : (l b l' b' : List ℕ) (reply : Result Reply Refusal) (reason : ℕ) → Answer → Type 0
LogsOut l b l' b' reply reason r = AnswersWith l b l' b' r (logged_out reply reason)

abbrev pub Closes : (l b l' b' : List ℕ) (reason : ℕ) → Answer → Type 0
Closes l b l' b' reason r = AnswersWith l b l' b' r (λ p. close_def p (length b) reason)
