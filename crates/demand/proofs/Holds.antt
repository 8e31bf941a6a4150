-- Demand 3, of the C functions: by their contracts alone.
-- Assumes nothing.
use mathlib.Core.Path.{◌≡◌, sym, ◌∙◌, ap, subst}
use mathlib.Core.Bool.{Bool}
use mathlib.Core.List.{List, [], ◌∷◌}
use Prim.Native.Nat.{ℕ, ◌/◌}
use borrow.Author.Tests.{le-ltb}
use lib.ListN.{length}
use Rattle.std.specs.Prelude.{Result, Ok}
use Rattle.srp.specs.Limits.{most_buffers}
use Rattle.srp.specs.Lists.{over}
use Rattle.srp.specs.Refusals.{first_of_checks}
use Rattle.srp.specs.Credit.{Port, owed}
use Rattle.srp.specs.Take.{Outcome, silent, Tables, take_def}
use Rattle.srp.specs.Take as def
use Rattle.srp.specs.Tables.{tables_def}
use Rattle.srp.specs.Calls.{unless, plan_def, move_def, step_def, turn_def, finish_def, add_def, withdraw_def, grant_def, close_def, counters_def, list_outcome, list_def}
use Rattle.srp.specs.Login.{login_def}
use Rattle.srp.specs.Answers.{returned, size_of}
use Rattle.srp.specs.declared.Refusal.TheVariants.{Argument}
use Rattle.srp.specs.declared.Settings.{Settings}
use Rattle.srp.specs.declared.Direction.{Direction}
use Rattle.srp.specs.declared.Record.{Record}
use Rattle.srp.specs.declared.Answer.{Answer}
use Rattle.srp.specs.declared.Reply.{Reply}
use Rattle.srp.specs.declared.Reply.TheVariants.{Performed, Counts, Listed}
use Rattle.machine.specs.Machine.{Machine, requests_held, Login, login_of}
use Rattle.machine.specs.Actions.{at_front}
use Rattle.machine.specs.Events.{sends, delivers, takes, brings, plans, names, steps, turns, finishes, adds, withdraws, grants}
use Rattle.machine.specs.Demand.{counted, Now, Meets}
use Rattle.machine.proofs.Demand.{demand_3}
use Rattle.answer.specs.Words.{answer_words}
use Rattle.words.specs.View.{view}
use Rattle.tables.specs.Bringing.{tables}
use Rattle.exports.specs.Arguments.{record_size, all_words, settings_in, direction_in}
use Rattle.exports.specs.Calls.{InC, AnswersInC, RepliesInC, CountersInC, ListInC}
use Rattle.exports.proofs.Listing.{counters_unwritten, list_unwritten}
use Rattle.srp.proofs.Listing.{listed_all}
use Rattle.demand.specs.Posts.{MutSlice}
use Rattle.demand.specs.Replies.{performed, stepped, turned}
use Rattle.demand.specs.Calls.{Memory, seen, LoggedIn, Took, Brought, WithMessage, Finished, Granted, Ended, WithoutMessage, Planned, Named, Stepped, Turned, Added, Withdrew, Untouched, TookFront, Call}
use Rattle.demand.specs.Holding.{Holds, Reports, Lists, Demand3InC}
use Rattle.demand.proofs.Told as told
use Rattle.srp.specs.declared.Refusal.{Refusal}

-- ── each call that was made is its definition's

-- what a call left, by other names
left_as : {r r' : Result Reply Refusal} {l l' st st' : List ℕ} {ss ss' : List (List ℕ)} → r ≡ r' → l ≡ l' → st ≡ st' → ss ≡ ss'
    → ◌≡◌ {A = Outcome} (record { reply = r; port = view l st; wrote = ss }) (record { reply = r'; port = view l' st'; wrote = ss' })
left_as e f g h = λ i. record { reply = e i; port = view (f i) (g i); wrote = h i }

module _ {s : Memory} {r : Result Reply Refusal} {ss : List (List ℕ)} {s' : Memory} where
  pub took : (room : ℕ) (msg : List ℕ) → Took s room msg r ss s' → take_def (seen s) room msg ≡ record { reply = r; port = seen s'; wrote = ss }
  took room msg c =
      sym (λ i. take_def (view (c.words i) (c.store i)) (c.gave.room_is i) (c.message i))
      ∙ told.answers c.post.1.answers (told.take_told (view c.p.now c.st.now) (length c.b.now) c.m.now)
      ∙ left_as c.gave.reply c.words' c.store' c.gave.wrote

  pub brought : (room tag : ℕ) (t : Tables) → Brought s room tag t r ss s' → tables_def (seen s) room tag t ≡ record { reply = r; port = seen s'; wrote = ss }
  brought room tag t c =
      sym (λ i. tables_def (view (c.words i) (c.store i)) (c.gave.room_is i) tag (c.lent i))
      ∙ told.answers c.post.1.answers (told.tables_told (view c.p.now c.st.now) (length c.b.now) tag (tables c.out.now c.inn.now))
      ∙ left_as c.gave.reply c.words' c.store' c.gave.wrote

  -- with a lent message buffer: o is the call's definition, by the port and the buffer's length
  module _ (o : Port → ℕ → Outcome) (one : (p : Port) (room : ℕ) → told.Told performed (o p room)) {Post : (p q b d w v : MutSlice) (n : ℕ) → Type 0}
      (promises : (p q b d w v : MutSlice) (n : ℕ) → Post p q b d w v n → (st : List ℕ) → AnswersInC p.now st b.now q.now st d.now n v.now (o (view p.now st) (length b.now))) where
    answered : (room : ℕ) → WithMessage s room Post r ss s' → o (seen s) room ≡ record { reply = r; port = seen s'; wrote = ss }
    answered room c =
        rw (← c.words, ← c.gave.room_is, ← c.gave.reply, ← c.gave.wrote, ← c.words', ← c.store')
        (told.answers (promises c.p c.q c.b c.d c.w c.v c.n c.post s.store) (one (view c.p.now s.store) (length c.b.now)))

  pub finished : (room tag status : ℕ) (sense : List ℕ) → Finished s room tag status sense r ss s'
      → finish_def (seen s) room tag status sense ≡ record { reply = r; port = seen s'; wrote = ss }
  finished room tag status sense c =
      answered (λ p n. finish_def p n tag status sense) (λ p n. told.finish_told p n tag status sense) (λ p q b d w v n post st. rw (← post.1) (post.2.1 st)) room c

  pub granted : (room : ℕ) → Granted s room r ss s' → grant_def (seen s) room ≡ record { reply = r; port = seen s'; wrote = ss }
  granted room c = answered (λ p n. grant_def p n) (λ p n. told.grant_told p n) (λ p q b d w v n post. post.1) room c

  pub ended : (room reason : ℕ) → Ended s room reason r ss s' → close_def (seen s) room reason ≡ record { reply = r; port = seen s'; wrote = ss }
  ended room reason c = answered (λ p n. close_def p n reason) (λ p n. told.close_told p n reason) (λ p q b d w v n post. post.1) room c

  -- without one
  module _ (o : Port → Outcome) (one : (p : Port) → told.Silent (o p)) {Post : (p q : MutSlice) (n : ℕ) → Type 0}
      (promises : (p q : MutSlice) (n : ℕ) → Post p q n → (st : List ℕ) → RepliesInC p.now st q.now n (o (view p.now st))) where
    silently : WithoutMessage s Post r ss s' → o (seen s) ≡ record { reply = r; port = seen s'; wrote = ss }
    silently c =
        rw (← c.words, ← c.reply, ← c.wrote, ← c.words', ← c.store')
        (told.replies (promises c.p c.q c.n c.post s.store) (one (view c.p.now s.store)))

  pub planned_is : (tag out inn : ℕ) → Planned s tag out inn r ss s' → plan_def (seen s) tag out inn ≡ record { reply = r; port = seen s'; wrote = ss }
  planned_is tag out inn c = silently (λ p. plan_def p tag out inn) (λ p. told.plan_said p tag out inn) (λ p q n post. post.1) c

  pub named : (tag : ℕ) (d : Direction) (offset count : ℕ) → Named s tag d offset count r ss s'
      → move_def (seen s) tag d offset count ≡ record { reply = r; port = seen s'; wrote = ss }
  named tag d offset count c =
      silently (λ p. move_def p tag d offset count) (λ p. told.move_said p tag d offset count) (λ p q n post st. rw (← post.1) (post.2.1 st)) c

  pub added : (k : ℕ) → Added s k r ss s' → add_def (seen s) k ≡ record { reply = r; port = seen s'; wrote = ss }
  added k c = silently (λ p. add_def p k) (λ p. told.add_said p k) (λ p q n post. post.1) c

  pub withdrew : (k : ℕ) → Withdrew s k r ss s' → withdraw_def (seen s) k ≡ record { reply = r; port = seen s'; wrote = ss }
  withdrew k c = silently (λ p. withdraw_def p k) (λ p. told.withdraw_said p k) (λ p q n post. post.1) c

  pub step_is : (tag : ℕ) (d : Direction) → Stepped s tag d r ss s' → step_def (seen s) tag d ≡ record { reply = r; port = seen s'; wrote = ss }
  step_is tag d c =
      sym (λ i. step_def (view (c.words i) (c.store i)) tag (c.direction_is i))
      ∙ told.steps stepped c.post.1.steps (told.step_said (view c.p.now c.st.now) tag (direction_in c.k))
      ∙ left_as c.reply c.words' (c.store ∙ c.store') c.wrote

  pub turn_is : Turned s r ss s' → turn_def (seen s) ≡ record { reply = r; port = seen s'; wrote = ss }
  turn_is c =
      sym (λ i. turn_def (view (c.words i) (c.store i)))
      ∙ told.steps turned c.post.1.turns (told.turn_said (view c.p.now c.st.now))
      ∙ left_as c.reply c.words' (c.store ∙ c.store') c.wrote

  untouched : Untouched s r ss s' → silent (seen s) (Ok Performed) ≡ record { reply = r; port = seen s'; wrote = ss }
  untouched c = λ i. record { reply = c.reply i; port = seen (c.same i); wrote = c.wrote i }

front : (s : Memory) (room : ℕ) (queue : List (List ℕ)) (r : Result Reply Refusal) (ss : List (List ℕ)) (s' : Memory) → TookFront s room queue r ss s'
    → at_front queue (silent (seen s) (Ok Performed)) (λ msg rest. take_def (seen s) room msg) ≡ record { reply = r; port = seen s'; wrote = ss }
front s room [] r ss s' c = untouched c
front s room (msg ∷ rest) r ss s' c = took room msg c

pub meets : (L : Login) → Meets L seen Call
meets L s m (sends x) r ss s' c = untouched c
meets L s m delivers r ss s' c = untouched c
meets L s m (takes room) r ss s' c = front s room m.wire.to_port r ss s' c
meets L s m (brings room tag t) r ss s' c = brought room tag t c
meets L s m (plans tag out inn) r ss s' c = planned_is tag out inn c
meets L s m (names tag d offset count) r ss s' c = named tag d offset count c
meets L s m (steps tag d) r ss s' c = step_is tag d c
meets L s m turns r ss s' c = turn_is c
meets L s m (finishes room tag status sense) r ss s' c = finished room tag status sense c
meets L s m (adds k) r ss s' c = added k c
meets L s m (withdraws k) r ss s' c = withdrew k c
meets L s m (grants room) r ss s' c = granted room c

-- ── the theorem

-- a login's reply, port and message are the definition's, whatever the store
pub logged_in_lem : {settings : List ℕ} {Q : ℕ} {own msg : List ℕ} {room : ℕ} {r : Result Reply Refusal} {ss : List (List ℕ)} {p : List ℕ} → LoggedIn settings Q own msg room r ss p → (store : List ℕ)
    → login_def (settings_in settings Q) own room msg ≡ record { reply = r; port = view p store; wrote = ss }
logged_in_lem {settings} {Q} l store =
    rw (← l.settings_are, ← l.own_is, ← l.message, ← l.gave.room_is, ← l.gave.reply, ← l.gave.wrote, ← l.words)
    (told.logs_in (l.post.1 store) (told.login_told (settings_in l.c.now Q) l.id.now (length l.b.now) l.m.now))

holds : (settings : List ℕ) (Q : ℕ) (own msg : List ℕ) (room : ℕ) (ss : List (List ℕ)) (p store : List ℕ) → Holds settings Q own msg room ss p store
holds settings Q own msg room ss p store l es run f =
    let c : Settings = settings_in settings Q in
    let e = logged_in_lem l store in
    demand_3 c own room msg (ap (λ (o : Outcome). o.reply) e) seen Call (meets (login_of c msg)) (record { words = p; store = store }) (sym (ap (λ (o : Outcome). o.port) e)) es run f

-- ── what the owner reads while the channel is open: document 01's "Owed is the D that the port reports"

-- an unrefused call that writes nothing, by its reply
in_words : (o : Outcome) (r : Result Reply Refusal) (n : ℕ) (w : List ℕ) → o.reply ≡ r → o.wrote ≡ [] → InC n w o → (n ≡ returned r) × (w ≡ answer_words (record { reply = r; wrote = 0 }))
in_words o r n w e f N = (
  N.number ∙ ap returned e,
  N.words ∙ ap (λ (a : Answer). answer_words a) (λ i. record { reply = e i; wrote = size_of (f i) }),
)

module _ (L : Login) (m : Machine) (s : Memory) (is : Now L m (seen s)) (n : ℕ) (w : List ℕ) where
  reports : CountersInC s.words n w → Reports L m s n w
  reports C = in_words (counters_def (seen s)) (Ok (Counts (counted L m (owed (seen s))))) n w is.reports (counters_unwritten (seen s)) (C s.store)

  lists : (before after : List ℕ) → ListInC s.words before after n w → Lists m before after n w
  lists before after C room =
      let k : ℕ = length before / record_size in
      let e : (list_def (seen s) k).reply ≡ Ok (Listed (requests_held m)) =
      ap (λ (b : Bool). (unless (first_of_checks (def.closed (seen s) ∷ (b, Argument) ∷ [])) (seen s) (list_outcome (seen s))).reply) (le-ltb k most_buffers room) ∙ is.lists in
      let N = in_words (list_def (seen s) k) (Ok (Listed (requests_held m))) n w e (list_unwritten (seen s) k) (C s.store).numbers in (
        N.0,
        N.1,
        (C s.store).records ∙ ap (λ (x : List Record). over (all_words x) before) ((listed_all (seen s) k (requests_held m) (sym e)).1 ∙ is.listed),
      )

pub demand_3_in_c : Demand3InC
demand_3_in_c =
    record {
      holds = holds;
      reports = λ L m s is p w v n e post. reports L m s is n v.now (subst (λ (l : List ℕ). CountersInC l n v.now) e post.1);
      lists = λ L m s is p before after w v n e post.
          lists L m s is n v.now before.now after.now (subst (λ (l : List ℕ). ListInC l before.now after.now n v.now) e post.1);
    }
