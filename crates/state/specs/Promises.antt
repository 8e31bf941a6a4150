-- What a call on a port promises. l and st are the port's words and its store before the call, l' and st' after it; o is the outcome that the
-- definitions give for the port that they are. A call returns a number (`returned`), not 0 where it refuses.
use Rattle.std.specs.Prelude.{◌≡◌, true, false, List, [], ℕ, Result}
use Rattle.srp.specs.Credit.{Port}
use Rattle.srp.specs.Writing.{placed}
use Rattle.srp.specs.Take.{Outcome}
use Rattle.srp.specs.Answers.{returned, answer_of}
use Rattle.srp.specs.declared.Reply.{Reply}
use Rattle.srp.specs.declared.Answer.{Answer}
use Rattle.words.specs.View.{view, closed_words}
use Rattle.srp.specs.declared.Refusal.{Refusal}

-- a call that is lent no message buffer: it writes no message, and where it refuses it alters no word and no byte of the store
pub record RepliesAs (l st l' st' : List ℕ) (r : Result Reply Refusal) (o : Outcome) : Type 0 where
  pub reply : r ≡ o.reply
  pub port : view l' st' ≡ o.port
  pub wrote : o.wrote ≡ []
  pub raw : (returned r ≡ 0 → ⊥) → (l' ≡ l) × (st' ≡ st)

-- a call that is lent a message buffer, b before it and b' after it: a refusal without a message alters no word and no byte of the store.
-- A call that closes the channel leaves the closed port's words
pub record AnswersAs (l st b l' st' b' : List ℕ) (r : Answer) (o : Outcome) : Type 0 where
  pub answer : r ≡ answer_of o
  pub port : view l' st' ≡ o.port
  pub buffer : b' ≡ placed o.wrote b
  pub raw : (returned r.reply ≡ 0 → ⊥) → r.wrote ≡ 0 → (l' ≡ l) × (st' ≡ st)
  pub closed : (view l st).live ≡ true → (view l' st').live ≡ false → l' ≡ closed_words

-- ── a call that is not lent the store, whatever that holds: o is its outcome by the port

abbrev pub RepliesWith : (l l' : List ℕ) → Result Reply Refusal → (o : Port → Outcome) → Type 0
RepliesWith l l' r o = (st : List ℕ) → RepliesAs l st l' st r (o (view l st))

abbrev pub AnswersWith : (l b l' b' : List ℕ) → Answer → (o : Port → Outcome) → Type 0
AnswersWith l b l' b' r o = (st : List ℕ) → AnswersAs l st b l' st b' r (o (view l st))
