-- What the definition of take comes to, by its checks, and what the call has done where a part of it has.
-- Assumes nothing.
use mathlib.Core.Path.{◌≡◌, refl, sym, ◌∙◌, ap, subst}
use mathlib.Core.Bool.{true, false, true≢false, not, ◌&&◌}
use mathlib.Core.List.{List, [], ◌∷◌}
use mathlib.Core.Option.{Option, none, some}
use Prim.Native.Nat.{ℕ, ◌≤◌, ◌<◌}
use lib.ListN.{length}
use borrow.Author.Tests.{lt-ltb, le-ltb}
use Rattle.std.specs.Prelude.{Result, Ok, Err}
use Rattle.srp.specs.Limits.{buffer_size}
use Rattle.srp.specs.Refusals.{Conduct, first_of_checks}
use Rattle.srp.specs.Requests.{read_message_lem}
use Rattle.srp.specs.Credit.{Port}
use Rattle.srp.specs.Take.{Outcome, closed, no_tables, given_in, waits, fields_fit, later_checks, accepted, conducted, take_by, take_def}
use Rattle.srp.specs.Answers.{refusing}
use Rattle.srp.specs.declared.Refusal.{Refusal}
use Rattle.srp.specs.declared.Refusal.TheVariants.{ShortBuffer, Fields}
use Rattle.srp.specs.declared.Message.{Message}
use Rattle.srp.specs.declared.Message.TheVariants.{Cmd, CredRsp}
use Rattle.srp.specs.declared.Command.{Command}
use Rattle.srp.specs.declared.Terms.{Terms}
use Rattle.srp.specs.declared.Answer.{Answer}
use Rattle.words.specs.Head.{head_of}
use Rattle.words.specs.View.{view}
use Rattle.words.proofs.Ports.{while_open, view_live}
use Rattle.state.specs.Opening.{Draws}
use Rattle.state.specs.Promises.{AnswersAs}
use Rattle.state.proofs.Promises.{answers_by, unaltered}
use Rattle.state.proofs.Drawn.{answers_closed, passes, drawn_first}
use Rattle.take.specs.Taking.{later_def, entry_checks, decided, takes_command, Stores, HangsUp, HangsUpAt, Admitted, Refused, SettlesCredit, DecidesFields, Decided, Hangs, Decides, Takes}

-- an outcome without a command leaves the store
pub not_taken : {l st b l' b' : List ℕ} {r : Answer} {o : Outcome} → AnswersAs l st b l' st b' r o → takes_command o.reply ≡ false → Stores l st l' st r.reply
not_taken A e =
    record { kept = λ f. refl; entered = λ t. absurd (true≢false (sym t ∙ ap (λ (a : Answer). takes_command a.reply) A.answer ∙ e)) }

-- ── behind 1 and 21

module _ (l st s : List ℕ) {t : Terms} (live : (head_of l).live ≡ true) (e : t ≡ (head_of l).terms) {x : Message} (r : Ok x ≡ read_message_lem t.agreed t.formats s) where
  -- the message as it was read decides
  decided_as : (m : Message) → x ≡ m → decided (view l st) s ≡ later_def (view l st) s (Ok m)
  decided_as m q =
      ap (later_def (view l st) s)
      (ap (λ (p : Port). read_message_lem p.terms.agreed p.terms.formats s) (while_open l st live)
      ∙ ap (λ (t : Terms). read_message_lem t.agreed t.formats s) (sym e)
      ∙ sym r
      ∙ ap (λ (y : Message). Ok y) q)

  -- a command that 22 and 23 pass
  pub commands : {b l' st' b' : List ℕ} {a : Answer} {c : Command} → x ≡ Cmd c → Admitted l c.request.tag → DecidesFields l st b l' st' b' s c a → Decided l st b l' st' b' s a
  commands {c = c} q A D =
      let p = view l st in
      let n = passes (entry_checks c.request.tag p) ((not (waits c) && not (fields_fit (given_in c s) no_tables), Fields) ∷ []) (A.passes st) in
      record { answers = answers_by (decided_as (Cmd c) q ∙ ap (λ (k : Option Refusal). take_by k p s (Ok (Cmd c))) n) D.answers; store = D.store }

  -- another message that no check hits
  pub accepts : {b l' b' : List ℕ} {a : Answer} (m : Message) → x ≡ m → first_of_checks (later_checks (view l st) s (Ok m)) ≡ none → takes_command (accepted (view l st) s (Ok m)).reply ≡ false
      → AnswersAs l st b l' st b' a (accepted (view l st) s (Ok m))
      → Decided l st b l' st b' s a
  accepts m q n k A =
      record { answers = answers_by (decided_as m q ∙ ap (λ (k : Option Refusal). take_by k (view l st) s (Ok m)) n) A; store = not_taken A k }

  -- a check that hits hangs up, where its refusal does
  pub hangs : {b : List ℕ} (m : Message) → x ≡ m → (f : Refusal) → HangsUpAt f → first_of_checks (later_checks (view l st) s (Ok m)) ≡ some f → Hangs l st b l st b s f
  hangs m q f h d =
      record {
        words = refl;
        store = refl;
        buffer = refl;
        outcome =
            decided_as m q ∙ ap (λ (k : Option Refusal). take_by k (view l st) s (Ok m)) d ∙ ap (λ (c : Conduct). conducted c (view l st) (Ok m) f) h;
      }

  -- 22 and 23 of a command
  pub unadmitted : {b : List ℕ} {c : Command} → x ≡ Cmd c → (f : Refusal) → Refused l (entry_checks c.request.tag) f → Hangs l st b l st b s f
  unadmitted {c = c} q f R =
      hangs (Cmd c) q f R.hangs (drawn_first (entry_checks c.request.tag (view l st)) ((not (waits c) && not (fields_fit (given_in c s) no_tables), Fields) ∷ []) (R.draws st))

  -- a credit response
  pub settles : (b l' : List ℕ) (g : ℕ) → x ≡ CredRsp g → (a : Result Answer Refusal) → SettlesCredit l l' g a → Decides l st b l' st b s a
  settles b l' g q (Ok a) S = accepts (CredRsp g) q (S.0 st) refl (S.1 st b s)
  settles b l' g q (Err f) S =
      record { words = S.0; store = refl; buffer = refl; outcome = (hangs {b = b} (CredRsp g) q f S.1.hangs (S.1.draws st)).outcome }

-- ── the call

module _ (l st b s : List ℕ) where
  -- 1
  pub short : length b < buffer_size → Takes l st b l st b s (refusing ShortBuffer)
  short h =
      let A = unaltered l st b ShortBuffer (refusing ShortBuffer) refl in
      record { answers = answers_by (rw (lt-ltb (length b) 132 h) refl) A; store = not_taken A refl }

  module _ (enough : buffer_size ≤ length b) where
    -- 21
    pub refused : {f : Refusal} → Draws l (λ p. closed p ∷ []) f → Takes l st b l st b s (refusing f)
    refused {f} e =
        let p = view l st in
        let m = read_message_lem p.terms.agreed p.terms.formats s in
        record {
          answers = answers_closed l st b {r = refusing f} refl (λ k. take_by k p s m) refl enough e (later_checks p s m);
          store = not_taken (unaltered l st b f (refusing f) refl) refl;
        }

    module _ (live : (head_of l).live ≡ true) where
      open_def : take_def (view l st) (length b) s ≡ decided (view l st) s
      open_def = let o : (view l st).live ≡ true = view_live l st ∙ live in rw (le-ltb (length b) 132 enough, o) refl

      pub answered : {l' st' b' : List ℕ} {r : Answer} → Decided l st b l' st' b' s r → Takes l st b l' st' b' s r
      answered D = record { answers = answers_by open_def D.answers; store = D.store }

      -- the channel is hung up
      pub hung : {l₁ st₁ b₁ l' b' : List ℕ} {f : Refusal} {r : Answer} → Hangs l st b l₁ st₁ b₁ s f → HangsUp l₁ b₁ l' b' f r → Takes l st b l' st₁ b' s r
      hung {l₁} {st₁} {b₁} {l'} {b'} {f} {r} H U =
          let V = subst (λ (x : List ℕ). HangsUp x b₁ l' b' f r) H.words U in
          let A = subst (λ (x : List ℕ). HangsUp l x l' b' f r) H.buffer V st in
          subst (λ (x : List ℕ). Takes l st b l' x b' s r) (sym H.store)
          (record { answers = answers_by (open_def ∙ H.outcome) A; store = not_taken A refl })
