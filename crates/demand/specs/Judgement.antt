-- Demand 1, of the C functions: "A message handed to the port .. is taken, or draws the refusal that document 01 names for it and no other. Every public
-- call makes its own checks and returns, and after a refusal the port's state and each lent buffer hold what document 01 says". l and st are the port's
-- words and store before the call, l' and st' after it; b and b' the lent buffer; n is returned, w are the words of the answer.
use Rattle.std.specs.Prelude.{◌≡◌, ◌↔◌, false, List, [], ◌∷◌, ℕ, ◌/◌, ltb, length, replicate, Ok}
use Rattle.std.proofs.Math.Option.{none, some}
use Rattle.srp.specs.Limits.{answer_size}
use Rattle.srp.specs.Lists.{over}
use Rattle.srp.specs.Refusals.{hangs_up, answered, stays, alters_nothing, number_of, conduct_of, Check, first_of_checks}
use Rattle.srp.specs.Requests.{Reading, read_message_lem, look_checks, look_outcome}
use Rattle.srp.specs.Cutting.{cut_checks, cut_outcome}
use Rattle.srp.specs.Credit.{Port, closed_port}
use Rattle.srp.specs.Writing.{target_logout, placed}
use Rattle.srp.specs.Take.{Outcome, Tables, answer_bad_lem, refused_by, accepted}
use Rattle.srp.specs.Tables.{tables_checks, tables_refused, tables_outcome}
use Rattle.srp.specs.Order.{take_order}
use Rattle.srp.specs.Calls.{plan_checks, plan_outcome, move_checks, move_outcome, step_checks, step_outcome, serve_first, turn_checks, finish_checks, finish_outcome, add_checks, add_outcome, withdraw_checks, withdraw_outcome, grant_checks, grant_outcome, close_checks, close_outcome, counters_checks, counters_outcome, listing, list_checks, list_outcome}
use Rattle.srp.specs.Login.{login_checks, rejections, judged}
use Rattle.srp.specs.Outside.{look_answer, cut_answer}
use Rattle.srp.specs.Answers.{operation_in, answer_of}
use Rattle.srp.specs.declared.Refusal.{Refusal}
use Rattle.srp.specs.declared.Refusal.TheVariants.{ShortBuffer}
use Rattle.srp.specs.declared.Settings.{Settings}
use Rattle.srp.specs.declared.Reply.TheVariants.{Accepted, Rejected}
use Rattle.answer.specs.Words.{answer_words}
use Rattle.words.specs.View.{view, closed_words}
use Rattle.tables.specs.Bringing.{Accepted as Supplied}
use Rattle.take.specs.Taking.{Stores}
use Rattle.page.specs.Page.{trace_line, trace_checks}
use Rattle.page.specs.declared.Way.{Way}
use Rattle.division.specs.Dividing.{division, divide_checks, division_words}
use Rattle.exports.specs.Arguments.{record_size, all_words, settings_in, direction_in}
use Rattle.demand.specs.Replies.{reply_by, logged_in}

-- ── one record for every call

-- of a call with these checks, in the papers' order: what it does where none hits, and what each refusal leaves
pub record Judgement (checks : List Check) (n : ℕ) (Performs : Type 0) (Leaves : Refusal → Type 0) : Type 0 where
  -- refused with f exactly if f is the first of the checks that hits
  pub refuses : (f : Refusal) → (n ≡ number_of f) ↔ (first_of_checks checks ≡ some f)
  pub unrefused : (n ≡ 0) ↔ (first_of_checks checks ≡ none)
  pub performs : first_of_checks checks ≡ none → Performs
  pub leaves : (f : Refusal) → first_of_checks checks ≡ some f → Leaves f

-- the words of a refusal without a message
abbrev pub no_words : List ℕ
no_words = replicate 8 0

-- the outcome o of a call with a lent buffer: the words, the port and every byte of the buffer
pub record Comes (o : Outcome) (l' st' b b' w : List ℕ) : Type 0 where
  pub words : w ≡ answer_words (answer_of o)
  pub port : view l' st' ≡ o.port
  pub buffer : b' ≡ placed o.wrote b

-- "returns its number and alters nothing": no word of the port, no byte of the buffer
pub record Unaltered (l b l' b' w : List ℕ) : Type 0 where
  pub words : w ≡ no_words
  pub port : l' ≡ l
  pub buffer : b' ≡ b

-- ── take, of every message s

-- the message as the port p reads it
abbrev pub read_on : Port → List ℕ → Reading
read_on p s = read_message_lem p.terms.agreed p.terms.formats s

-- what is left after take refused it with f, a part for each conduct
pub record Left (l st b l' st' b' s w : List ℕ) (f : Refusal) : Type 0 where
  -- the length of the message written, and nothing else
  pub words : w ≡ answer_words (answer_of (refused_by (view l st) (read_on (view l st) s) f))
  -- 3 to 8, 22, 23 and 25 "write SRP_T_LOGOUT, drop all commands and close": every word is the closed port's
  pub hung_up : (reason : ℕ) → conduct_of f ≡ hangs_up reason
      → (l' ≡ closed_words) × (view l' st' ≡ closed_port) × (b' ≡ placed (target_logout (view l st).terms.losolnt reason ∷ []) b)
  -- 10 "is taken and answered in the same call"
  pub responded : conduct_of f ≡ answered
      → let o : Outcome = answer_bad_lem (view l st) (read_on (view l st) s) f in
      (view l' st' ≡ o.port) × (b' ≡ placed o.wrote b)
  -- "Every other refusal returns its number and alters nothing": 1, on which the message stays in its queue
  pub stayed : conduct_of f ≡ stays → Unaltered l b l' b' w
  -- and those on which it leaves
  pub unaltered : conduct_of f ≡ alters_nothing → Unaltered l b l' b' w
  -- and whatever the refusal, no byte of the store is altered
  pub store : st' ≡ st

-- it was taken, with the outcome o: the store is altered for a command alone, at its own place, and a logout leaves the closed port's words
pub record TakenAs (o : Outcome) (l st b l' st' b' w : List ℕ) : Type 0 where
  pub comes : Comes o l' st' b b' w
  pub store : Stores l st l' st' o.reply
  pub closed : o.port.live ≡ false → l' ≡ closed_words

abbrev pub JudgesTake : (l st b l' st' b' s : List ℕ) (n : ℕ) (w : List ℕ) → Type 0
JudgesTake l st b l' st' b' s n w =
    Judgement (take_order (view l st) (length b) s) n (TakenAs (accepted (view l st) s (read_on (view l st) s)) l st b l' st' b' w) (Left l st b l' st' b' s w)

-- ── tables, of every tag and all tables t

-- accepted: the store is altered at the command's own place alone
pub record BroughtAs (o : Outcome) (l st b l' st' b' w : List ℕ) (tag : ℕ) : Type 0 where
  pub comes : Comes o l' st' b b' w
  pub store : Supplied l st l' st' tag

-- what is left after tables refused with f
pub record TablesLeft (l st b l' st' b' w : List ℕ) (tag : ℕ) (f : Refusal) : Type 0 where
  -- "10 still answering the command", which ends
  pub responded : conduct_of f ≡ answered → Comes (tables_refused answered (view l st) tag f) l' st' b b' w
  -- "Every other refusal returns its number and alters nothing": the command waits on
  pub unaltered : (conduct_of f ≡ answered → ⊥) → Unaltered l b l' b' w
  -- and whatever the refusal, no byte of the store is altered
  pub store : st' ≡ st

abbrev pub JudgesTables : (l st b l' st' b' : List ℕ) (tag : ℕ) → Tables → (n : ℕ) (w : List ℕ) → Type 0
JudgesTables l st b l' st' b' tag t n w =
    Judgement (tables_checks (view l st) (length b) tag t) n (BroughtAs (tables_outcome (view l st) tag t) l st b l' st' b' w tag) (TablesLeft l st b l' st' b' w tag)

-- ── login with the settings c, whose own identifier is `own`, by its rejections

pub record LoginJudged (c : Settings) (own s l' st b b' : List ℕ) (n : ℕ) (w : List ℕ) : Type 0 where
  -- rejected for a reason exactly if it is the first that fits, and accepted exactly if none does
  pub rejects : (reason : ℕ) → (reply_by logged_in n w ≡ Ok (Rejected reason)) ↔ (first_of_checks (rejections c own s) ≡ some reason)
  pub accepts : (reply_by logged_in n w ≡ Ok Accepted) ↔ (first_of_checks (rejections c own s) ≡ none)
  pub comes : Comes (judged (first_of_checks (rejections c own s)) c s) l' st b b' w
  -- a rejection leaves the closed port's words
  pub closed : (reason : ℕ) → first_of_checks (rejections c own s) ≡ some reason → l' ≡ closed_words

-- "without an accepted login it is closed": a refused login leaves the closed port's words, and the buffer as it was
pub record LoginRefused (b l' b' w : List ℕ) : Type 0 where
  pub words : w ≡ no_words
  pub port : l' ≡ closed_words
  pub buffer : b' ≡ b

abbrev pub JudgesLogin : (b l' b' settings : List ℕ) (Q : ℕ) (own s : List ℕ) (n : ℕ) (w : List ℕ) → Type 0
JudgesLogin b l' b' settings Q own s n w =
    (st : List ℕ)
    → let c : Settings = settings_in settings Q in
    Judgement (login_checks c (length b) s) n (LoginJudged c own s l' st b b' n w) (λ f. LoginRefused b l' b' w)

-- ── the other calls on a port; those that are not lent the store, for every store

abbrev pub JudgesPlan : (l l' : List ℕ) (tag out inn n : ℕ) → Type 0
JudgesPlan l l' tag out inn n = (st : List ℕ) → Judgement (plan_checks (view l st) tag) n (view l' st ≡ (plan_outcome (view l st) tag out inn).port) (λ f. l' ≡ l)

abbrev pub JudgesMove : (l l' : List ℕ) (tag direction offset count n : ℕ) → Type 0
JudgesMove l l' tag direction offset count n =
    (st : List ℕ)
    → let d = direction_in direction in
    Judgement (move_checks (view l st) tag d offset) n (view l' st ≡ (move_outcome (view l st) tag d offset count).port) (λ f. l' ≡ l)

-- step and turn have words and no buffer; one that hands out no operation, as it says done or idle, alters no word of the port
pub record Handed (o : Outcome) (l l' st w : List ℕ) : Type 0 where
  pub words : w ≡ answer_words (answer_of o)
  pub port : view l' st ≡ o.port
  pub nothing : operation_in o.reply ≡ none → l' ≡ l

abbrev pub JudgesStep : (l l' st : List ℕ) (tag direction n : ℕ) (w : List ℕ) → Type 0
JudgesStep l l' st tag direction n w =
    Judgement (step_checks (view l st) tag) n (Handed (step_outcome (view l st) tag (direction_in direction)) l l' st w) (λ f. (w ≡ no_words) × (l' ≡ l))

-- the first of the line is served; of the refusals it draws 21 alone
abbrev pub JudgesTurn : (l l' st : List ℕ) (n : ℕ) (w : List ℕ) → Type 0
JudgesTurn l l' st n w =
    Judgement (turn_checks (view l st)) n (Handed (serve_first (view l st) (view l st).line) l l' st w) (λ f. (w ≡ no_words) × (l' ≡ l))

abbrev pub JudgesFinish : (l b l' b' : List ℕ) (tag status : ℕ) (sense : List ℕ) (n : ℕ) (w : List ℕ) → Type 0
JudgesFinish l b l' b' tag status sense n w =
    (st : List ℕ)
    → Judgement (finish_checks (view l st) (length b) tag status sense) n (Comes (finish_outcome (view l st) tag status sense) l' st b b' w) (λ f. Unaltered l b l' b' w)

abbrev pub JudgesAdd : (l l' : List ℕ) (k n : ℕ) → Type 0
JudgesAdd l l' k n = (st : List ℕ) → Judgement (add_checks (view l st) k) n (view l' st ≡ (add_outcome (view l st) k).port) (λ f. l' ≡ l)

abbrev pub JudgesWithdraw : (l l' : List ℕ) (k n : ℕ) → Type 0
JudgesWithdraw l l' k n = (st : List ℕ) → Judgement (withdraw_checks (view l st) k) n (view l' st ≡ (withdraw_outcome (view l st) k).port) (λ f. l' ≡ l)

abbrev pub JudgesGrant : (l b l' b' : List ℕ) (n : ℕ) (w : List ℕ) → Type 0
JudgesGrant l b l' b' n w =
    (st : List ℕ) → Judgement (grant_checks (view l st) (length b)) n (Comes (grant_outcome (view l st)) l' st b b' w) (λ f. Unaltered l b l' b' w)

-- an unrefused close leaves the closed port's words
abbrev pub JudgesClose : (l b l' b' : List ℕ) (reason n : ℕ) (w : List ℕ) → Type 0
JudgesClose l b l' b' reason n w =
    (st : List ℕ)
    → Judgement (close_checks (view l st) (length b)) n (Comes (close_outcome (view l st) reason) l' st b b' w × (l' ≡ closed_words)) (λ f. Unaltered l b l' b' w)

-- ── counters and listing, which change no word

abbrev pub JudgesCounters : (l : List ℕ) (n : ℕ) (w : List ℕ) → Type 0
JudgesCounters l n w = (st : List ℕ) → Judgement (counters_checks (view l st)) n (w ≡ answer_words (answer_of (counters_outcome (view l st)))) (λ f. w ≡ no_words)

-- the lent words have room for a fourth as many records
abbrev pub JudgesList : (l before after : List ℕ) (n : ℕ) (w : List ℕ) → Type 0
JudgesList l before after n w =
    (st : List ℕ)
    → Judgement (list_checks (view l st) (length before / record_size)) n
    ((w ≡ answer_words (answer_of (list_outcome (view l st)))) × (after ≡ over (all_words (listing (view l st))) before))
    (λ f. (w ≡ no_words) × (after ≡ before))

-- ── look and the cut

-- "In C the answer takes 32 bytes (a shorter buffer draws 1 first)"
abbrev pub short_answer : ℕ → Check
short_answer room = (ltb room answer_size, ShortBuffer)

abbrev pub JudgesLook : (agreed formats : ℕ) (s b b' : List ℕ) (n : ℕ) → Type 0
JudgesLook agreed formats s b b' n =
    Judgement (short_answer (length b) ∷ look_checks agreed formats s) n
    (b' ≡ placed (look_answer (Ok (look_outcome s))).wrote b)
    (λ f. b' ≡ b)

abbrev pub JudgesCut : (list : List ℕ) (M Q R handed : ℕ) (b b' : List ℕ) (n : ℕ) → Type 0
JudgesCut list M Q R handed b b' n =
    Judgement (short_answer (length b) ∷ cut_checks list M Q R handed) n
    (b' ≡ placed (cut_answer (Ok (cut_outcome list M Q R handed))).wrote b)
    (λ f. b' ≡ b)

-- ── trace

abbrev pub JudgesTrace : Way → (s b b' : List ℕ) (n : ℕ) → Type 0
JudgesTrace w s b b' n = Judgement (trace_checks (length b)) n (b' ≡ placed (trace_line w s ∷ []) b) (λ f. b' ≡ b)

-- ── how format bytes divide

abbrev pub JudgesFormatCounts : (formats n : ℕ) (w : List ℕ) → Type 0
JudgesFormatCounts formats n w = Judgement (divide_checks formats) n (w ≡ division_words (division formats)) (λ f. w ≡ no_words)
