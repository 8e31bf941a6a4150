-- What the numbers of a call from C tell: its reply is read back from the number and the words, its message from the lent buffer. Assumes nothing.
use mathlib.Core.Path.{◌≡◌, refl, sym, ◌∙◌, ap}
use mathlib.Core.Bool.{Bool, true, false, true≢false}
use mathlib.Core.List.{List, [], ◌∷◌}
use mathlib.Core.Option.{Option, none, some}
use Prim.Native.Nat.{ℕ, ◌+◌, ◌≤◌}
use native.Mathlib.Omega.{arith}
use native.Mathlib.Nat.{not-suc-le-zero}
use borrow.Author.Tests.{not-false, ne_eqb}
use lib.Dec.{eqb}
use lib.ListN.{length, get_or}
use lib.Seq.{take-append_seam}
use Rattle.std.specs.Prelude.{Result, Ok, Err}
use Rattle.srp.specs.Lists.{find, is_some}
use Rattle.srp.specs.Refusals.{Conduct, hangs_up, answered, stays, alters_nothing, conduct_of, number_of, first_of_checks}
use Rattle.srp.specs.Writing.{placed}
use Rattle.srp.specs.Credit.{Open, Port, has_tag}
use Rattle.srp.specs.Bytes.{bit}
use Rattle.srp.proofs.Refusing.{answered_open}
use Rattle.srp.specs.Tables.{bad_response, tables_checks, tables_refused, tables_by, tables_def}
use Rattle.srp.specs.Take.{Outcome, silent, is_open_lem, Tables, waits, take_checks, conducted, accepted, take_by, take_def}
use Rattle.srp.specs.Calls.{unless, plan_checks, plan_outcome, plan_def, move_checks, move_outcome, move_def, add_checks, add_outcome, add_def, withdraw_checks, withdraw_outcome, withdraw_def, hand_out_lem, next_of, number_in, step_checks, step_def, wrapped, serve, serve_first, turn_checks, turn_def, final_response, finish_checks, finish_outcome, finish_def, grant_checks, grant_outcome, grant_def, close_checks, close_outcome, close_def}
use Rattle.srp.specs.Login.{login_checks, rejections, login_by, login_def}
use Rattle.srp.specs.Answers.{returned, size_of, answer_of}
use Rattle.srp.specs.declared.Settings.{Settings}
use Rattle.srp.specs.declared.Direction.{Direction}
use Rattle.srp.specs.declared.Direction.TheVariants.{Out, In}
use Rattle.srp.specs.declared.Piece.{Piece}
use Rattle.srp.specs.declared.Place.{Place}
use Rattle.srp.specs.declared.Refusal.{Refusal}
use Rattle.srp.specs.Requests.{Reading}
use Rattle.srp.specs.declared.Message.TheVariants.{Cmd, TskMgmt, CredRsp, ILogout}
use Rattle.srp.specs.declared.Reply.{Reply}
use Rattle.srp.specs.declared.Reply.TheVariants.{Performed, NewCommand, Served}
use Rattle.srp.proofs.RefusalLaws.{numbered}
use Rattle.srp.proofs.Checks.{passes, hit}
use Rattle.answer.specs.Words.{answer_words}
use Rattle.words.specs.View.{view}
use Rattle.exports.specs.Calls.{InC, AnswersInC, StepsInC, RepliesInC, LogsInC}
use Rattle.demand.specs.Replies.{refused_or, reply_by, performed, taken, stepped, turned, logged_in, written, message_in}
use Rattle.demand.specs.Judgement.{read_on}

-- ── one message at most

-- and no empty one
abbrev pub Single : List (List ℕ) → Type 0
Single [] = Unit {0}
Single (s ∷ []) = 1 ≤ length s
Single (s ∷ t ∷ ss) = ⊥

-- such a message is read back from the buffer in which it was placed
back : (ws : List (List ℕ)) (b : List ℕ) → Single ws → written (size_of ws) (placed ws b) ≡ ws
back [] b h = refl
back ([] ∷ []) b h = absurd (not-suc-le-zero h)
back ((x ∷ s) ∷ []) b h = rw (take-append_seam (x ∷ s) _)
back (s ∷ t ∷ ss) b h = absurd h

-- ── what is told

-- the reply of an outcome is told by its number and its words, as `said` reads them; of step and turn this is all, since no message's length is in their words
abbrev pub InWords : (said : List ℕ → Reply) → Outcome → Type 0
InWords said o = reply_by said (returned o.reply) (answer_words (answer_of o)) ≡ o.reply

-- so it is of an outcome with a message at most, whose length stands first
pub record Told (said : List ℕ → Reply) (o : Outcome) : Type 0 where
  pub reply : InWords said o
  pub size : get_or (answer_words (answer_of o)) 0 0 ≡ size_of o.wrote
  pub single : Single o.wrote

-- a refusal, whatever the words
refused : (said : List ℕ → Reply) (f : Refusal) (w : List ℕ) → reply_by said (number_of f) w ≡ Err f
refused said f w = ap (λ (x : Option Refusal). refused_or x (said w)) (numbered f)

refused_told : (said : List ℕ → Reply) (f : Refusal) (p : Port) (ws : List (List ℕ)) → Single ws → Told said (record { reply = Err f; port = p; wrote = ws })
refused_told said f p ws h = record { reply = refused said f _; size = refl; single = h }

-- a call with its checks
unless_told : (said : List ℕ → Reply) (x : Option Refusal) (p : Port) (o : Outcome) → (x ≡ none → Told said o) → Told said (unless x p o)
unless_told said none p o h = h refl
unless_told said (some f) p o h = refused_told said f p [] tt

-- one that is performed
performed_told : (p : Port) (ws : List (List ℕ)) → Single ws → Told performed (record { reply = Ok Performed; port = p; wrote = ws })
performed_told p ws h = record { reply = refl; size = refl; single = h }

-- ── each call

module _ (p : Port) where
  conducted_told : (m : Reading) (f : Refusal) (c : Conduct) → Told taken (conducted c p m f)
  conducted_told m f (hangs_up reason) = refused_told taken f _ _ (omega arith)
  conducted_told m f answered = refused_told taken f _ _ (omega arith)
  conducted_told m f stays = refused_told taken f _ [] tt
  conducted_told m f alters_nothing = refused_told taken f _ [] tt

  -- whether it waits is told by its word
  waits_told : (b : Bool) → eqb (bit b) 1 ≡ b
  waits_told true = refl
  waits_told false = refl

  accepted_told : (s : List ℕ) (m : Reading) → Told taken (accepted p s m)
  accepted_told s (Err r) = conducted_told (Err r) r (conduct_of r)
  accepted_told s (Ok (Cmd c)) = record { reply = ap (λ w. Ok (NewCommand c.request.tag c.request.lun c.cdb w)) (waits_told (waits c)); size = refl; single = tt }
  accepted_told s (Ok (TskMgmt k)) = record { reply = refl; size = refl; single = omega arith }
  accepted_told s (Ok (CredRsp g)) = record { reply = refl; size = refl; single = tt }
  accepted_told s (Ok ILogout) = record { reply = refl; size = refl; single = tt }

  pub take_told : (room : ℕ) (s : List ℕ) → Told taken (take_def p room s)
  take_told room s = go (first_of_checks (take_checks p room s (read_on p s))) (read_on p s)
    where
      go : (v : Option Refusal) (m : Reading) → Told taken (take_by v p s m)
      go none m = accepted_told s m
      go (some f) m = conducted_told m f (conduct_of f)

  -- only a command that is open is answered
  pub tables_told : (room tag : ℕ) (t : Tables) → Told performed (tables_def p room tag t)
  tables_told room tag t = go (first_of_checks (tables_checks p room tag t)) refl
    where
      single : (v : Option Open) (d : ℕ) → is_some v ≡ true → 1 ≤ length (bad_response v d)
      single none d e = absurd (true≢false (sym e))
      single (some c) d e = omega arith

      by : (c : Conduct) (f : Refusal) → (c ≡ answered → is_open_lem p tag ≡ true) → Told performed (tables_refused c p tag f)
      by (hangs_up reason) f e = refused_told performed f _ [] tt
      by answered f e = refused_told performed f _ _ (single (find (has_tag tag) p.held) _ (e refl))
      by stays f e = refused_told performed f _ [] tt
      by alters_nothing f e = refused_told performed f _ [] tt

      go : (v : Option Refusal) → first_of_checks (tables_checks p room tag t) ≡ v → Told performed (tables_by v p tag t)
      go none e = performed_told _ [] tt
      go (some f) e = by (conduct_of f) f (answered_open p tag room t f e)

  pub grant_told : (room : ℕ) → Told performed (grant_def p room)
  grant_told room = unless_told performed (first_of_checks (grant_checks p room)) p (grant_outcome p) λ _. performed_told _ _ (omega arith)

  pub close_told : (room reason : ℕ) → Told performed (close_def p room reason)
  close_told room reason = unless_told performed (first_of_checks (close_checks p room)) p (close_outcome p reason) λ _. performed_told _ _ (omega arith)

  -- a command that is open has a response
  response_single : (v : Option Open) (status : ℕ) (sense : List ℕ) (d : ℕ) → is_some v ≡ true → 1 ≤ length (final_response v status sense d)
  response_single none status sense d e = absurd (true≢false (sym e))
  response_single (some c) status sense d e = omega arith

  pub finish_told : (room tag status : ℕ) (sense : List ℕ) → Told performed (finish_def p room tag status sense)
  finish_told room tag status sense =
      unless_told performed (first_of_checks (finish_checks p room tag status sense)) p (finish_outcome p tag status sense) λ e.
      performed_told _ _
      (response_single (find (has_tag tag) p.held) status sense _ (not-false (is_open_lem p tag) (passes (finish_checks p room tag status sense) e).1.1.1.0))

  pub step_said : (tag : ℕ) (d : Direction) → InWords stepped (step_def p tag d)
  step_said tag d = let c = find (has_tag tag) p.held in go (first_of_checks (step_checks p tag)) d (number_in d c) (next_of p.terms d c)
    where
      go : (x : Option Refusal) (d : Direction) (n : ℕ) (y : Option Piece) → InWords stepped (unless x p (hand_out_lem p tag d n y))
      go (some f) d n y = refused stepped f (answer_words (answer_of (silent p (Err f))))
      go none d n none = refl
      go none Out n (some o) = refl
      go none In n (some o) = refl

  pub turn_said : InWords turned (turn_def p)
  turn_said = go (first_of_checks (turn_checks p)) p.line
    where
      piece_said : (q : Port) (tag : ℕ) (d : Direction) (o : Piece) (n : ℕ) → InWords turned (silent q (Ok (Served tag d o n)))
      piece_said q tag Out o n = refl
      piece_said q tag In o n = refl

      one : (x : Place) (others : List Place) (n : ℕ) (y : Option Piece) → InWords turned (serve p x others n y)
      one x others n none = refl
      one x others n (some o) = piece_said (serve p x others n (some o)).port x.tag x.direction (wrapped o) (n + 1)

      go : (x : Option Refusal) (line : List Place) → InWords turned (unless x p (serve_first p line))
      go (some f) line = refused turned f (answer_words (answer_of (silent p (Err f))))
      go none [] = refl
      go none (x ∷ others) =
          let c = find (has_tag x.tag) p.held in
          one x others (number_in x.direction c) (next_of p.terms x.direction c)

-- plan, move, add, withdraw: they have no words
abbrev pub Silent : Outcome → Type 0
Silent o = (reply_by performed (returned o.reply) [] ≡ o.reply)

silently_said : (x : Option Refusal) (p q : Port) → Silent (unless x p (silent q (Ok Performed)))
silently_said none p q = refl
silently_said (some f) p q = refused performed f []

module _ (p : Port) where
  pub plan_said : (tag out inn : ℕ) → Silent (plan_def p tag out inn)
  plan_said tag out inn = silently_said (first_of_checks (plan_checks p tag)) p (plan_outcome p tag out inn).port

  pub move_said : (tag : ℕ) (d : Direction) (offset count : ℕ) → Silent (move_def p tag d offset count)
  move_said tag d offset count = silently_said (first_of_checks (move_checks p tag d offset)) p (move_outcome p tag d offset count).port

  pub add_said : (k : ℕ) → Silent (add_def p k)
  add_said k = silently_said (first_of_checks (add_checks p k)) p (add_outcome p k).port

  pub withdraw_said : (k : ℕ) → Silent (withdraw_def p k)
  withdraw_said k = silently_said (first_of_checks (withdraw_checks p k)) p (withdraw_outcome p k).port

pub login_told : (c : Settings) (own : List ℕ) (room : ℕ) (s : List ℕ) → Told logged_in (login_def c own room s)
login_told c own room s = go (first_of_checks (login_checks c room s)) (first_of_checks (rejections c own s)) refl
  where
    -- no rejection has the reason 0
    some_reason : (reason : ℕ) → first_of_checks (rejections c own s) ≡ some reason → 1 ≤ reason
    some_reason reason e =
        hit (λ n. 1 ≤ n) (rejections c own s)
        ((λ _. omega arith), ((λ _. omega arith), ((λ _. omega arith), ((λ _. omega arith), ((λ _. omega arith), ((λ _. omega arith), tt)))))) reason e

    go : (x : Option Refusal) (y : Option ℕ) → first_of_checks (rejections c own s) ≡ y → Told logged_in (login_by x c own s)
    go (some f) y e = refused_told logged_in f _ [] tt
    go none none e = rw e (record { reply = refl; size = refl; single = omega arith })
    go none (some reason) e =
        let z : eqb reason 0 ≡ false = ne_eqb reason 0 (λ q. let h : 1 ≤ reason = some_reason reason e in omega arith) in
        rw e (record { reply = rw z; size = refl; single = omega arith })

-- ── of the contracts in C

outcome : (o : Outcome) (r : Result Reply Refusal) (p : Port) (ss : List (List ℕ)) → o.reply ≡ r → o.port ≡ p → o.wrote ≡ ss → o ≡ record { reply = r; port = p; wrote = ss }
outcome o r p ss e f g = λ i. record { reply = e i; port = f i; wrote = g i }

module _ {o : Outcome} {n : ℕ} {w : List ℕ} (N : InC n w o) where
  -- the reply that the numbers say is the outcome's
  reply_is : (said : List ℕ → Reply) → InWords said o → o.reply ≡ reply_by said n w
  reply_is said e = sym (ap (λ (k : ℕ). reply_by said k w) N.number ∙ ap (λ (l : List ℕ). reply_by said (returned o.reply) l) N.words ∙ e)

  -- and the message, placed in the buffer b
  message_is : (b b' : List ℕ) → b' ≡ placed o.wrote b → get_or (answer_words (answer_of o)) 0 0 ≡ size_of o.wrote → Single o.wrote → o.wrote ≡ message_in w b'
  message_is b b' e z h =
      sym
      (ap (λ (l : List ℕ). written (get_or l 0 0) b') N.words
      ∙ ap (λ (k : ℕ). written k b') z
      ∙ ap (written (size_of o.wrote)) e
      ∙ back o.wrote b h)

-- a call with a lent message buffer
pub answers : {l st b l' st' b' : List ℕ} {n : ℕ} {w : List ℕ} {o : Outcome} {said : List ℕ → Reply} → AnswersInC l st b l' st' b' n w o → Told said o
    → o ≡ record { reply = reply_by said n w; port = view l' st'; wrote = message_in w b' }
answers {l} {st} {b} {l'} {st'} {b'} {n} {w} {o} {said} A T =
    outcome o (reply_by said n w) (view l' st') (message_in w b') (reply_is A.numbers said T.reply) (sym A.call.port)
    (message_is A.numbers b b' A.call.buffer T.size T.single)

-- login
pub logs_in : {st l' b b' : List ℕ} {n : ℕ} {w : List ℕ} {o : Outcome} {said : List ℕ → Reply} → LogsInC st l' b b' n w o → Told said o
    → o ≡ record { reply = reply_by said n w; port = view l' st; wrote = message_in w b' }
logs_in {st} {l'} {b} {b'} {n} {w} {o} {said} A T =
    outcome o (reply_by said n w) (view l' st) (message_in w b') (reply_is A.numbers said T.reply) (sym A.call.port)
    (message_is A.numbers b b' A.call.buffer T.size T.single)

-- step, turn
pub steps : {l st l' : List ℕ} {n : ℕ} {w : List ℕ} {o : Outcome} (said : List ℕ → Reply) → StepsInC l st l' n w o → InWords said o
    → o ≡ record { reply = reply_by said n w; port = view l' st; wrote = [] }
steps {l} {st} {l'} {n} {w} {o} said S e = outcome o (reply_by said n w) (view l' st) [] (reply_is S.numbers said e) (sym S.call.port) S.call.wrote

-- a call without the answer's words
pub replies : {l st l' : List ℕ} {n : ℕ} {o : Outcome} → RepliesInC l st l' n o → Silent o
    → o ≡ record { reply = reply_by performed n []; port = view l' st; wrote = [] }
replies {l} {st} {l'} {n} {o} R e =
    outcome o (reply_by performed n []) (view l' st) [] (sym (ap (λ (k : ℕ). reply_by performed k []) R.number ∙ e)) (sym R.call.port) R.call.wrote
