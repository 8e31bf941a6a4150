-- Login, cut where the code is cut, and what it promises. b is the buffer before the call, l' and b' the port's words and the buffer after it; the words
-- before it, and the store, are of no account.
use Rattle.std.specs.Prelude.{◌≡◌, false, List, ℕ, ◌≤◌, length, Result, Ok, Err}
use Rattle.std.proofs.Math.Option.{Option, none, some}
use Rattle.srp.specs.Limits.{largest_piece, longest_agreed}
use Rattle.srp.specs.Refusals.{first_of_checks}
use Rattle.srp.specs.Cutting.{bad_boundary}
use Rattle.srp.specs.Writing.{placed}
use Rattle.srp.specs.Take.{Outcome}
use Rattle.srp.specs.Answers.{answer_of}
use Rattle.srp.specs.Login.{rejections, opened, judged, login_def}
use Rattle.srp.specs.declared.Settings.{Settings}
use Rattle.srp.specs.declared.Reply.TheVariants.{Accepted}
use Rattle.srp.specs.declared.Answer.{Answer}
use Rattle.words.specs.Head.{CountsFit}
use Rattle.words.specs.View.{view, closed_words}
use Rattle.login.specs.declared.Reason.{Reason}
use Rattle.login.specs.declared.Reason.TheVariants.{NoReason, TooLong, OtherTarget, FormatsNotSupported, MultipleChannels}

-- "Then the first that fits is rejected": the reasons' numbers, and the reason that a verdict gives
abbrev pub reason_number : Reason → ℕ
reason_number NoReason = 0x00010000
reason_number TooLong = 0x00010002
reason_number OtherTarget = 0x00010003
reason_number FormatsNotSupported = 0x00010004
reason_number MultipleChannels = 0x00010005

abbrev pub verdict_of : Result (Unit {0}) Reason → Option ℕ
verdict_of (Ok u) = none
verdict_of (Err r) = some (reason_number r)

-- settings that draw no 2
pub record GoodSettings (c : Settings) : Type 0 where
  pub counts : CountsFit 0 c.buffers c.buffers
  pub smallest : 1 ≤ c.maximum
  pub largest : c.maximum ≤ largest_piece
  pub boundary : bad_boundary c.boundary ≡ false
  pub longest : c.longest ≤ longest_agreed

-- where the port is closed, its words are the closed port's
pub record LogsIn (st l' b b' : List ℕ) (r : Answer) (o : Outcome) : Type 0 where
  pub answer : r ≡ answer_of o
  pub port : view l' st ≡ o.port
  pub buffer : b' ≡ placed o.wrote b
  pub closed : (r.reply ≡ Ok Accepted → ⊥) → l' ≡ closed_words

-- ── for every store: the port that the settings c and the message s open

abbrev pub Opens : (l' : List ℕ) (c : Settings) (s : List ℕ) → Type 0
Opens l' c s = (st : List ℕ) → view l' st ≡ opened c s

-- login behind its refusals, by a port whose own identifier is `own`
abbrev pub AnswersLogin : (b l' b' : List ℕ) (c : Settings) (own s : List ℕ) → Answer → Type 0
AnswersLogin b l' b' c own s r = (st : List ℕ) → LogsIn st l' b b' r (judged (first_of_checks (rejections c own s)) c s)

-- login
abbrev pub MakesPort : (b l' b' : List ℕ) (c : Settings) (own s : List ℕ) → Answer → Type 0
MakesPort b l' b' c own s r = (st : List ℕ) → LogsIn st l' b b' r (login_def c own (length b) s)
