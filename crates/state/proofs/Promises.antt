-- What a call promises, from what it did: a refusal, a message written, a change of the open port, the channel closed.
-- Assumes nothing.
use mathlib.Core.Path.{◌≡◌, refl, sym, ◌∙◌, ap, subst}
use mathlib.Core.Bool.{true, false, true≢false}
use mathlib.Core.List.{List, []}
use mathlib.Core.Option.{none, some}
use Prim.Native.Nat.{ℕ, ◌+◌, ◌-◌, ◌<◌}
use native.Mathlib.Omega.{arith}
use lib.ListN.{get_or}
use Rattle.std.specs.Prelude.{Result, Err}
use Rattle.srp.specs.Lists.{find, change, is_some}
use Rattle.srp.specs.Credit.{Open, Port, due, with_held, has_tag}
use Rattle.srp.specs.Writing.{placed}
use Rattle.srp.specs.Take.{Outcome, silent, is_open_lem}
use Rattle.srp.specs.Answers.{refusal_in, returned, size_of, answer_of, refusing}
use Rattle.srp.specs.declared.Refusal.{Refusal}
use Rattle.srp.specs.declared.Reply.{Reply}
use Rattle.srp.specs.declared.Answer.{Answer}
use Rattle.words.specs.Slots.{slots, no_slot, SlotIs}
use Rattle.words.specs.Head.{head_of, SlotChanged}
use Rattle.words.specs.View.{open_of, open_port_lem, shown, view, closed_words}
use Rattle.words.specs.declared.Head.{Head}
use Rattle.words.specs.declared.Slot.{Slot}
use Rattle.words.proofs.Ports.{while_open}
use Rattle.state.specs.Changes.{FoundAt, FoundIs, Alters, Settled, without_ended, after_use}
use Rattle.state.specs.Promises.{RepliesAs, AnswersAs}
use Rattle.state.specs.declared.Ending.{Ending}
use Rattle.std.specs.Prelude.{None}

-- ── a call without a lent message buffer

-- a refusal alters nothing
pub refused : (l st : List ℕ) (f : Refusal) → RepliesAs l st l st (Err f) (silent (view l st) (Err f))
refused l st f = record { reply = refl; port = refl; wrote = refl; raw = λ e. (refl, refl) }

-- without a refusal there is none to answer for
unrefused : (r : Result Reply Refusal) {P : Type 0} → refusal_in r ≡ none → (returned r ≡ 0 → ⊥) → P
unrefused r n e = absurd (e (rw (n, returned) refl))

module _ {l st l' st' : List ℕ} {r : Result Reply Refusal} where
  -- a definition's outcome by what it comes to
  pub replies_by : {o o' : Outcome} → o ≡ o' → RepliesAs l st l' st' r o' → RepliesAs l st l' st' r o
  replies_by e R = subst (λ (x : Outcome). RepliesAs l st l' st' r x) (sym e) R

  -- a call that refuses nothing
  pub performed : {o : Outcome} → r ≡ o.reply → view l' st' ≡ o.port → o.wrote ≡ [] → refusal_in r ≡ none → RepliesAs l st l' st' r o
  performed e p w n = record { reply = e; port = p; wrote = w; raw = λ q. unrefused r n q }

-- ── a call with a lent message buffer

-- a refusal without a message alters nothing
pub unaltered : (l st b : List ℕ) (f : Refusal) (r : Answer) → r ≡ refusing f → AnswersAs l st b l st b r (silent (view l st) (Err f))
unaltered l st b f r e = record { answer = e; port = refl; buffer = refl; raw = λ x y. (refl, refl); closed = λ o c. absurd (true≢false (sym o ∙ c)) }

-- a channel that is open or closed as before is not closed by the call
stays : (p p' q : Port) {P : Type 0} → p' ≡ q → q.live ≡ p.live → p.live ≡ true → p'.live ≡ false → P
stays p p' q e k t f = absurd (true≢false (sym t ∙ sym k ∙ ap (λ (x : Port). x.live) (sym e) ∙ f))

module _ {l st b l' st' b' : List ℕ} {r : Answer} where
  -- a definition's outcome by what it comes to
  pub answers_by : {o o' : Outcome} → o ≡ o' → AnswersAs l st b l' st' b' r o' → AnswersAs l st b l' st' b' r o
  answers_by e A = subst (λ (x : Outcome). AnswersAs l st b l' st' b' r x) (sym e) A

  module _ {o : Outcome} (e : r ≡ answer_of o) (p : view l' st' ≡ o.port) (w : b' ≡ placed o.wrote b) where
    wrote_by : 0 < size_of o.wrote → ((view l st).live ≡ true → (view l' st').live ≡ false → l' ≡ closed_words) → AnswersAs l st b l' st' b' r o
    wrote_by n k =
        let z : r.wrote ≡ size_of o.wrote = ap (λ (a : Answer). a.wrote) e in
        record { answer = e; port = p; buffer = w; raw = λ x y. let q : ⊥ = omega arith in absurd q; closed = k }

    accepted_by : refusal_in o.reply ≡ none → ((view l st).live ≡ true → (view l' st').live ≡ false → l' ≡ closed_words) → AnswersAs l st b l' st' b' r o
    accepted_by n k =
        record { answer = e; port = p; buffer = w; raw = λ x y. unrefused r.reply (ap (λ (a : Answer). refusal_in a.reply) e ∙ n) x; closed = k }

    -- a call that writes a message, the channel open or closed as before
    pub wrote : 0 < size_of o.wrote → o.port.live ≡ (view l st).live → AnswersAs l st b l' st' b' r o
    wrote n k = wrote_by n (stays (view l st) (view l' st') o.port p k)

    -- a call that writes a message and closes the channel
    pub wrote_closed : 0 < size_of o.wrote → l' ≡ closed_words → AnswersAs l st b l' st' b' r o
    wrote_closed n k = wrote_by n (λ t f. k)

    -- a call that refuses nothing, the channel open or closed as before
    pub accepted : refusal_in o.reply ≡ none → o.port.live ≡ (view l st).live → AnswersAs l st b l' st' b' r o
    accepted n k = accepted_by n (stays (view l st) (view l' st') o.port p k)

    -- a call that refuses nothing and closes the channel
    pub accepted_closed : refusal_in o.reply ≡ none → l' ≡ closed_words → AnswersAs l st b l' st' b' r o
    accepted_closed n k = accepted_by n (λ t f. k)

-- ── changes of the open port

module _ (l l' st : List ℕ) where
  -- a change
  pub altered_view : {f : Port → Port} → (head_of l).live ≡ true → Alters l l' f → view l' st ≡ f (view l st)
  altered_view {f} e A = while_open l' st (A.live ∙ e) ∙ A.port st ∙ ap f (sym (while_open l st e))

  -- credit settled: the delta, and the port with it announced
  pub settled_view : {used delta : ℕ} → (head_of l).live ≡ true → Settled used delta l l'
      → (delta ≡ due (after_use used (view l st))) × (view l' st ≡ with_held (view l st) ((view l st).announced - used + delta) (view l st).held)
  settled_view {used} {delta} e S = (
    S.delta_is st ∙ ap (λ (p : Port). due (after_use used p)) (sym (while_open l st e)),
    while_open l' st (S.live ∙ e) ∙ S.port st ∙ ap (λ (p : Port). with_held p (p.announced - used + delta) p.held) (sym (while_open l st e)),
  )

  -- the command with a tag changed in its slot
  pub changed_view : {i tag : ℕ} {f : Slot → Slot} → (head_of l).live ≡ true → FoundAt l tag i → SlotChanged l l' i f
      → (g : Open → Open) → open_of st (f (get_or (slots l) i no_slot)) ≡ g (open_of st (get_or (slots l) i no_slot))
      → view l' st ≡ with_held (view l st) (view l st).announced (change (has_tag tag) g (view l st).held)
  changed_view {i} {tag} {f} e F C g q =
      while_open l' st (ap (λ (h : Head). h.live) C.head ∙ e)
      ∙ (λ j. open_port_lem (C.head j) (C.slots j) (C.line j) st)
      ∙ ap (λ (cs : List Open). with_held (shown l st) (head_of l).announced cs) (sym (F.changes st g (f (get_or (slots l) i no_slot)) q))
      ∙ ap (λ (p : Port). with_held p p.announced (change (has_tag tag) g p.held)) (sym (while_open l st e))

-- the end of commands leaves A
pub announced_same : {l l' : List ℕ} (e : Ending) → Alters l l' (without_ended e) → (head_of l').announced ≡ (head_of l).announced
announced_same e A = ap (λ (p : Port). p.announced) (A.port [])

-- ── the search for a tag in the open port

-- the search in the port that the words are
searched : (l st : List ℕ) (tag : ℕ) → (head_of l).live ≡ true → find (has_tag tag) (view l st).held ≡ find (has_tag tag) (shown l st).held
searched l st tag e = ap (λ (p : Port). find (has_tag tag) p.held) (while_open l st e)

module _ {l : List ℕ} {tag i : ℕ} (F : FoundAt l tag i) (e : (head_of l).live ≡ true) (st : List ℕ) where
  -- the command found
  pub found_first : find (has_tag tag) (view l st).held ≡ some (open_of st (get_or (slots l) i no_slot))
  found_first = searched l st tag e ∙ F.first st

  -- it is the one in its slot
  pub found_slot : {c : Slot} → SlotIs l i c → find (has_tag tag) (view l st).held ≡ some (open_of st c)
  found_slot S = found_first ∙ ap (λ (x : Slot). some (open_of st x)) (sym S.whole)

  -- its tag is open
  pub tag_open : is_open_lem (view l st) tag ≡ true
  tag_open = ap is_some found_first

module _ (l : List ℕ) (tag : ℕ) (F : FoundIs l tag None) (e : (head_of l).live ≡ true) (st : List ℕ) where
  -- no command found
  pub found_none : find (has_tag tag) (view l st).held ≡ none
  found_none = searched l st tag e ∙ F st

  -- the tag is not open
  pub tag_free : is_open_lem (view l st) tag ≡ false
  tag_free = ap is_some found_none
