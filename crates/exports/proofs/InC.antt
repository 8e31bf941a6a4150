-- What a call on a port promises, said of the numbers and words that its call from C gives. Assumes nothing.
use mathlib.Core.Path.{◌≡◌, sym, ◌∙◌, ap, subst}
use mathlib.Core.List.{List, []}
use Prim.Native.Nat.{ℕ}
use Rattle.std.specs.Prelude.{Result, Ok}
use Rattle.srp.specs.Take.{Outcome}
use Rattle.srp.specs.Answers.{returned, size_of, answer_of}
use Rattle.srp.specs.declared.Direction.{Direction}
use Rattle.srp.specs.declared.Reply.{Reply}
use Rattle.srp.specs.declared.Answer.{Answer}
use Rattle.answer.specs.Words.{answer_words}
use Rattle.state.specs.Promises.{RepliesAs, AnswersAs}
use Rattle.srp.specs.Login.{login_def}
use Rattle.login.specs.LoggingIn.{LogsIn}
use Rattle.srp.specs.declared.Settings.{Settings}
use Rattle.take.specs.Taking.{Takes, Stores}
use Rattle.transfer.specs.Stepping.{Steps}
use Rattle.transfer.specs.Turning.{Turns}
use Rattle.exports.specs.Arguments.{direction_in}
use Rattle.exports.specs.Calls.{Gives, InC, AnswersInC, StepsInC, LogsInC, TakeInC, StepInC, TurnInC}
use Rattle.srp.specs.declared.Refusal.{Refusal}

pub in_numbers : {n : ℕ} {w : List ℕ} {r : Answer} {o : Outcome} → r ≡ answer_of o → Gives n w r → InC n w o
in_numbers e g = record { number = g.0 ∙ ap (λ (a : Answer). returned a.reply) e; words = g.1 ∙ ap (λ (a : Answer). answer_words a) e }

-- the words of the reply x, where the call replied it
pub says : {r : Result Reply Refusal} {y x : Reply} {w : List ℕ} (wrote : ℕ) → r ≡ Ok y → y ≡ x → w ≡ answer_words (record { reply = Ok x; wrote = wrote })
    → Gives 0 w (record { reply = r; wrote = wrote })
says {r} {y} {x} wrote e q f =
    let k : r ≡ Ok x = e ∙ ap (λ (z : Reply). Ok z) q in
    (sym (ap (λ (z : Result Reply Refusal). returned z) k), f ∙ sym (ap (λ (z : Result Reply Refusal). answer_words (record { reply = z; wrote = wrote })) k))

-- a reply without a message
pub silently : {r : Result Reply Refusal} (o : Outcome) → r ≡ o.reply → o.wrote ≡ [] → record { reply = r; wrote = 0 } ≡ answer_of o
silently o e f = ap (λ (x : Result Reply Refusal). record { reply = x; wrote = 0 }) e ∙ ap (λ (m : List (List ℕ)). record { reply = o.reply; wrote = size_of m }) (sym f)

pub answers_in_c : {l st b l' st' b' : List ℕ} {n : ℕ} {w : List ℕ} {o : Outcome} {r : Answer} → AnswersAs l st b l' st' b' r o → Gives n w r → AnswersInC l st b l' st' b' n w o
answers_in_c {l} {st} {b} {l'} {st'} {b'} {n} {w} {o} A g = record { numbers = in_numbers A.answer g; call = subst (λ (x : Answer). AnswersAs l st b l' st' b' x o) A.answer A }

pub take_in_c : {l st b l' st' b' s : List ℕ} {n : ℕ} {w : List ℕ} {r : Answer} → Takes l st b l' st' b' s r → Gives n w r → TakeInC l st b l' st' b' s n w
take_in_c {l} {st} {b} {l'} {st'} T g =
    record { answers = answers_in_c T.answers g; store = subst (λ (x : Answer). Stores l st l' st' x.reply) T.answers.answer T.store }

-- a login with the settings c, which are c'
pub logs_in_c : {st l' b b' : List ℕ} {n : ℕ} {w : List ℕ} {r : Answer} {c c' : Settings} (own msg : List ℕ) (room : ℕ) → c ≡ c'
    → LogsIn st l' b b' r (login_def c own room msg)
    → Gives n w r
    → LogsInC st l' b b' n w (login_def c' own room msg)
logs_in_c {st} {l'} {b} {b'} {n} {w} {r} {c} {c'} own msg room e L g =
    subst (λ (x : Settings). LogsInC st l' b b' n w (login_def x own room msg)) e
    (record { numbers = in_numbers L.answer g; call = subst (λ (x : Answer). LogsIn st l' b b' x (login_def c own room msg)) L.answer L })

module _ {l st l' : List ℕ} {o : Outcome} {r : Result Reply Refusal} where
  of_outcome : RepliesAs l st l' st r o → RepliesAs l st l' st o.reply o
  of_outcome R = subst (λ (x : Result Reply Refusal). RepliesAs l st l' st x o) R.reply R

  pub steps_in_c : {n : ℕ} {w : List ℕ} → RepliesAs l st l' st r o → Gives n w (record { reply = r; wrote = 0 }) → StepsInC l st l' n w o
  steps_in_c R g = record { numbers = in_numbers (silently o R.reply R.wrote) g; call = of_outcome R }

-- a step in the direction d, which is that of the number
pub step_in_c : {l l' st : List ℕ} {tag n : ℕ} {w : List ℕ} {d : Direction} {r : Result Reply Refusal} (direction : ℕ) → d ≡ direction_in direction → Steps l l' st tag d r
    → Gives n w (record { reply = r; wrote = 0 })
    → StepInC l l' st tag direction n w
step_in_c {l} {l'} {st} {tag} {r = r} direction e S g =
    let D : Steps l l' st tag (direction_in direction) r = subst (λ (x : Direction). Steps l l' st tag x r) e S in
    record { steps = steps_in_c D.replies g; done = λ k q. D.done k (D.replies.reply ∙ q) }

-- a turn
pub turn_in_c : {l l' st : List ℕ} {n : ℕ} {w : List ℕ} {r : Result Reply Refusal} → Turns l l' st r → Gives n w (record { reply = r; wrote = 0 }) → TurnInC l l' st n w
turn_in_c T g = record { turns = steps_in_c T.replies g; idle = λ q. T.idle (T.replies.reply ∙ q) }
