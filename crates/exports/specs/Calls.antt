-- What the calls from C on a port promise: the number returned, the eight words of the answer, and all that the call of the same name promises.
-- l and st are the port's words and its store before the call, l' and st' after it; b and b' the lent buffer; n is returned, w are the words.
use Rattle.std.specs.Prelude.{◌≡◌, ◌⊎◌, List, [], ◌∷◌, ◌++◌, ℕ, ◌/◌, pos, length, replicate, Result, Ok, Err}
use Rattle.srp.specs.Lists.{over}
use Rattle.srp.specs.Credit.{Port}
use Rattle.srp.specs.Take.{Outcome, Tables, take_def}
use Rattle.srp.specs.Tables.{tables_def}
use Rattle.srp.specs.Calls.{plan_def, move_def, step_def, turn_def, finish_def, add_def, withdraw_def, grant_def, close_def, counters_def, list_def, records_for}
use Rattle.srp.specs.Login.{login_def}
use Rattle.srp.specs.Answers.{values_of, returned, answer_of}
use Rattle.srp.specs.declared.Refusal.{Refusal}
use Rattle.srp.specs.declared.Reply.{Reply}
use Rattle.srp.specs.declared.Reply.TheVariants.{Done, Idle}
use Rattle.srp.specs.declared.Answer.{Answer}
use Rattle.answer.specs.Words.{leading, answer_words}
use Rattle.words.specs.View.{view}
use Rattle.state.specs.Promises.{RepliesAs, AnswersAs}
use Rattle.login.specs.LoggingIn.{LogsIn}
use Rattle.take.specs.Taking.{Stores}
use Rattle.tables.specs.Bringing as bringing
use Rattle.division.specs.Dividing.{divide_def, divided_number, divided_words}
use Rattle.exports.specs.Arguments.{record_size, all_words, settings_in, direction_in}

-- an answer in numbers
abbrev pub Gives : (n : ℕ) (w : List ℕ) → Answer → Type 0
Gives n w a = (n ≡ returned a.reply) × (w ≡ answer_words a)

-- an outcome in numbers
pub record InC (n : ℕ) (w : List ℕ) (o : Outcome) : Type 0 where
  pub number : n ≡ returned o.reply
  pub words : w ≡ answer_words (answer_of o)

-- take, tables, finish, grant, close
pub record AnswersInC (l st b l' st' b' : List ℕ) (n : ℕ) (w : List ℕ) (o : Outcome) : Type 0 where
  pub numbers : InC n w o
  pub call : AnswersAs l st b l' st' b' (answer_of o) o

-- a reply without values: in words it is the length of the message
abbrev pub Plain : Result Reply Refusal → Type 0
Plain r = ((wrote : ℕ) → leading wrote r ++ values_of r ≡ pos wrote ∷ [])

-- a reply without a word that is not 0, where no message is written
abbrev pub Wordless : Result Reply Refusal → Type 0
Wordless r = replicate 8 0 ≡ answer_words (record { reply = r; wrote = 0 })

-- what a step says that hands out nothing: done, or a refusal
abbrev pub Ends : Result Reply Refusal → Type 0
Ends r = ((n : ℕ) × (r ≡ Ok (Done n))) ⊎ ((f : Refusal) × (r ≡ Err f))

-- step, turn
pub record StepsInC (l st l' : List ℕ) (n : ℕ) (w : List ℕ) (o : Outcome) : Type 0 where
  pub numbers : InC n w o
  pub call : RepliesAs l st l' st o.reply o

-- plan, move, add, withdraw
pub record RepliesInC (l st l' : List ℕ) (n : ℕ) (o : Outcome) : Type 0 where
  pub number : n ≡ returned o.reply
  pub call : RepliesAs l st l' st o.reply o

-- login
pub record LogsInC (st l' b b' : List ℕ) (n : ℕ) (w : List ℕ) (o : Outcome) : Type 0 where
  pub numbers : InC n w o
  pub call : LogsIn st l' b b' (answer_of o) o

-- the listing: the lent words hold a fourth as many records
pub record ListsInC (p : Port) (before after : List ℕ) (n : ℕ) (w : List ℕ) : Type 0 where
  pub numbers : InC n w (list_def p (length before / record_size))
  pub records : after ≡ over (all_words (records_for p (length before / record_size))) before

-- ── the calls, by name; those that are not lent the store, for every store

abbrev pub LoginInC : (b l' b' settings : List ℕ) (Q : ℕ) (own s : List ℕ) (n : ℕ) (w : List ℕ) → Type 0
LoginInC b l' b' settings Q own s n w = (st : List ℕ) → LogsInC st l' b b' n w (login_def (settings_in settings Q) own (length b) s)

pub record TakeInC (l st b l' st' b' s : List ℕ) (n : ℕ) (w : List ℕ) : Type 0 where
  pub answers : AnswersInC l st b l' st' b' n w (take_def (view l st) (length b) s)
  pub store : Stores l st l' st' (take_def (view l st) (length b) s).reply

pub record TablesInC (l st b l' st' b' : List ℕ) (tag : ℕ) (t : Tables) (n : ℕ) (w : List ℕ) : Type 0 where
  pub answers : AnswersInC l st b l' st' b' n w (tables_def (view l st) (length b) tag t)
  pub store : bringing.Stores l st l' st' tag (tables_def (view l st) (length b) tag t).reply

abbrev pub PlanInC : (l l' : List ℕ) (tag out inn n : ℕ) → Type 0
PlanInC l l' tag out inn n = (st : List ℕ) → RepliesInC l st l' n (plan_def (view l st) tag out inn)

abbrev pub MoveInC : (l l' : List ℕ) (tag direction offset count n : ℕ) → Type 0
MoveInC l l' tag direction offset count n =
    (st : List ℕ) → RepliesInC l st l' n (move_def (view l st) tag (direction_in direction) offset count)

pub record StepInC (l l' st : List ℕ) (tag direction n : ℕ) (w : List ℕ) : Type 0 where
  pub steps : StepsInC l st l' n w (step_def (view l st) tag (direction_in direction))
  pub done : (k : ℕ) → (step_def (view l st) tag (direction_in direction)).reply ≡ Ok (Done k) → l' ≡ l

pub record TurnInC (l l' st : List ℕ) (n : ℕ) (w : List ℕ) : Type 0 where
  pub turns : StepsInC l st l' n w (turn_def (view l st))
  pub idle : (turn_def (view l st)).reply ≡ Ok Idle → l' ≡ l

abbrev pub FinishInC : (l b l' b' : List ℕ) (tag status : ℕ) (sense : List ℕ) (n : ℕ) (w : List ℕ) → Type 0
FinishInC l b l' b' tag status sense n w = (st : List ℕ) → AnswersInC l st b l' st b' n w (finish_def (view l st) (length b) tag status sense)

abbrev pub AddInC : (l l' : List ℕ) (k n : ℕ) → Type 0
AddInC l l' k n = (st : List ℕ) → RepliesInC l st l' n (add_def (view l st) k)

abbrev pub WithdrawInC : (l l' : List ℕ) (k n : ℕ) → Type 0
WithdrawInC l l' k n = (st : List ℕ) → RepliesInC l st l' n (withdraw_def (view l st) k)

abbrev pub GrantInC : (l b l' b' : List ℕ) (n : ℕ) (w : List ℕ) → Type 0
GrantInC l b l' b' n w = (st : List ℕ) → AnswersInC l st b l' st b' n w (grant_def (view l st) (length b))

abbrev pub CloseInC : (l b l' b' : List ℕ) (reason n : ℕ) (w : List ℕ) → Type 0
CloseInC l b l' b' reason n w = (st : List ℕ) → AnswersInC l st b l' st b' n w (close_def (view l st) (length b) reason)

abbrev pub CountersInC : (l : List ℕ) (n : ℕ) (w : List ℕ) → Type 0
CountersInC l n w = (st : List ℕ) → InC n w (counters_def (view l st))

abbrev pub ListInC : (l before after : List ℕ) (n : ℕ) (w : List ℕ) → Type 0
ListInC l before after n w = (st : List ℕ) → ListsInC (view l st) before after n w

-- ── how format bytes divide, without a port

pub record FormatCountsInC (formats n : ℕ) (w : List ℕ) : Type 0 where
  pub number : n ≡ divided_number (divide_def formats)
  pub words : w ≡ divided_words (divide_def formats)
