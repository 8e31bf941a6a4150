-- Refusals that the first checks of a call draw, and what those checks leave to the others.
-- Assumes nothing.
use mathlib.Core.Path.{◌≡◌, refl, sym, ◌∙◌, ap}
use mathlib.Core.Bool.{Bool, true, false, cond, not}
use mathlib.Core.List.{List, [], ◌∷◌, ◌++◌}
use mathlib.Core.Option.{Option, none, some, none-ne-some, some_inj}
use Prim.Native.Nat.{ℕ, ◌≤◌, ◌<◌}
use borrow.Author.Tests.{lt-ltb, le-ltb}
use lib.ListN.{length, drop}
use Rattle.std.specs.Prelude.{Result, Err, IsErrAnd}
use Rattle.std.proofs.lemmas.Result.{err_from_is_err_and}
use Rattle.srp.specs.Limits.{buffer_size}
use Rattle.srp.specs.Refusals.{Check, first_of_checks, short}
use Rattle.srp.specs.Calls.{unless, open_checks}
use Rattle.srp.specs.Take.{Outcome, silent, closed}
use Rattle.srp.specs.Answers.{refusing}
use Rattle.srp.specs.declared.Refusal.{Refusal}
use Rattle.srp.specs.declared.Refusal.TheVariants.{ShortBuffer, Closed}
use Rattle.srp.specs.declared.Answer.{Answer}
use Rattle.srp.specs.declared.Reply.{Reply}
use Rattle.words.specs.Head.{head_of}
use Rattle.words.specs.View.{view}
use Rattle.words.proofs.Ports.{view_live}
use Rattle.state.specs.Promises.{RepliesAs, AnswersAs}
use Rattle.state.specs.Opening.{Draws, ReadyAt, ReadyIs}
use Rattle.state.proofs.Promises.{refused, unaltered, answers_by}
use Rattle.state.proofs.Waiting.{found_draws}

-- the refusal that the first checks draw stands before all others
pub drawn_first : (a b : List Check) {f : Refusal} → first_of_checks a ≡ some f → first_of_checks (a ++ b) ≡ some f
drawn_first [] b {f} e = absurd (none-ne-some f e)
drawn_first (c ∷ cs) b {f} e = go c.0 e (λ q. drawn_first cs b q)
  where
    go : (d : Bool) → cond d (some c.1) (first_of_checks cs) ≡ some f → (first_of_checks cs ≡ some f → first_of_checks (cs ++ b) ≡ some f)
        → cond d (some c.1) (first_of_checks (cs ++ b)) ≡ some f
    go true q ih = q
    go false q ih = ih q

module _ (l st : List ℕ) (e : (head_of l).live ≡ true) where
  -- of an open channel the other checks decide
  pub passes_open : (rest : List Check) → first_of_checks (closed (view l st) ∷ rest) ≡ first_of_checks rest
  passes_open rest = rw (view_live l st ∙ e) refl

  -- and of a command that does not wait
  pub passes_ready : {tag i : ℕ} → ReadyAt l tag i → (rest : List Check) → first_of_checks (closed (view l st) ∷ (open_checks (view l st) tag ++ rest)) ≡ first_of_checks rest
  passes_ready {tag} {i} R rest = passes_open (open_checks (view l st) tag ++ rest) ∙ found_draws R.found e st R.ready rest

  -- or of one that waits or is not open the refusal
  pub draws_unready : (tag : ℕ) {f : Refusal} → ReadyIs l tag (Err f) → (rest : List Check) → first_of_checks (closed (view l st) ∷ (open_checks (view l st) tag ++ rest)) ≡ some f
  draws_unready tag {f} R rest = passes_open (open_checks (view l st) tag ++ rest) ∙ drawn_first (open_checks (view l st) tag) rest (R e st)

-- a refusal that a definition's checks draw alters nothing
pub refuses : (l st : List ℕ) {k : Option Refusal} {f : Refusal} (o : Outcome) → k ≡ some f → RepliesAs l st l st (Err f) (unless k (view l st) o)
refuses l st {k} {f} o e = rw e (refused l st f)

-- what passes them does what the definition has
pub performs : (l st l' st' : List ℕ) {k : Option Refusal} {r : Result Reply Refusal} (o : Outcome) → k ≡ none → RepliesAs l st l' st' r o → RepliesAs l st l' st' r (unless k (view l st) o)
performs l st l' st' o e R = rw e R

-- what a refusal that a call hands on has
pub handed : {A : Type 0} (P : Result A Refusal → Type 0) (r : Result A Refusal) {f : Refusal} → IsErrAnd r (λ g. g ≡ f) → P (Err f) → P r
handed P r on x = let p = err_from_is_err_and r on in rw (p.1, p.2) x

-- ── a refusal of the first checks that a call hands on, of its outcome o and its checks

module _ (l st : List ℕ) (o : Outcome) (checks : List Check) (r : Result Reply Refusal) {f : Refusal} (on : IsErrAnd r (λ g. g ≡ f)) where
  pub hands_on : {k : Option Refusal} → k ≡ some f → RepliesAs l st l st r (unless k (view l st) o)
  hands_on e = let p = err_from_is_err_and r on in rw (p.1, p.2) (refuses l st o e)

  -- 21
  pub refuses_closed : Draws l (λ p. closed p ∷ []) f → RepliesAs l st l st r (unless (first_of_checks (closed (view l st) ∷ drop 1 checks)) (view l st) o)
  refuses_closed e = hands_on (drawn_first (closed (view l st) ∷ []) (drop 1 checks) (e st))

  -- 24 and 33
  pub refuses_unready : (head_of l).live ≡ true → (tag : ℕ) → ReadyIs l tag (Err f)
      → RepliesAs l st l st r (unless (first_of_checks (closed (view l st) ∷ (open_checks (view l st) tag ++ drop 3 checks))) (view l st) o)
  refuses_unready live tag e = hands_on (draws_unready l st live tag e (drop 3 checks))

-- ── the same of a call with a lent message buffer, b, whose answer says the refusal

-- 1
pub draws_short : (b : List ℕ) → length b < buffer_size → (rest : List Check) → first_of_checks (short (length b) ∷ rest) ≡ some ShortBuffer
draws_short b h rest = rw (lt-ltb (length b) buffer_size h) refl

-- a buffer that is long enough leaves the refusal to the other checks
pub passes_short : (b : List ℕ) → buffer_size ≤ length b → (rest : List Check) → first_of_checks (short (length b) ∷ rest) ≡ first_of_checks rest
passes_short b h rest = rw (le-ltb (length b) buffer_size h) refl

-- the check of the channel draws 21 alone
pub only_closed : (l : List ℕ) {f : Refusal} → Draws l (λ p. closed p ∷ []) f → f ≡ Closed
only_closed l {f} e = go (not (view l []).live) (e [])
  where
    go : (d : Bool) → cond d (some Closed) none ≡ some f → f ≡ Closed
    go true q = sym (some_inj.0 q)
    go false q = absurd (none-ne-some f q)

-- checks of which none hits leave the refusal to the others
pub passes : (a b : List Check) → first_of_checks a ≡ none → first_of_checks (a ++ b) ≡ first_of_checks b
passes [] b e = refl
passes (c ∷ cs) b e = go c.0 e (λ q. passes cs b q)
  where
    go : (d : Bool) → cond d (some c.1) (first_of_checks cs) ≡ none → (first_of_checks cs ≡ none → first_of_checks (cs ++ b) ≡ first_of_checks b)
        → cond d (some c.1) (first_of_checks (cs ++ b)) ≡ first_of_checks b
    go true q ih = absurd (none-ne-some c.1 (sym q))
    go false q ih = ih q

module _ (l st b : List ℕ) {r : Answer} {f : Refusal} (on : r ≡ refusing f) where
  -- a refusal of any of its checks
  pub answers_refusal : {k : Option Refusal} (o : Outcome) → k ≡ some f → AnswersAs l st b l st b r (unless k (view l st) o)
  answers_refusal o e = rw e (unaltered l st b f r on)

  -- 21, of a definition that does by each refusal what `by` says
  pub answers_closed : (by : Option Refusal → Outcome) → by (some Closed) ≡ silent (view l st) (Err Closed) → buffer_size ≤ length b → Draws l (λ p. closed p ∷ []) f
      → (rest : List Check) → AnswersAs l st b l st b r (by (first_of_checks (short (length b) ∷ closed (view l st) ∷ rest)))
  answers_closed by s h e rest =
      let q : first_of_checks (short (length b) ∷ closed (view l st) ∷ rest) ≡ some f =
      passes_short b h (closed (view l st) ∷ rest) ∙ drawn_first (closed (view l st) ∷ []) rest (e st) in
      let c = only_closed l e in
      answers_by (ap by (q ∙ ap some c) ∙ s ∙ ap (λ (g : Refusal). silent (view l st) (Err g)) (sym c)) (unaltered l st b f r on)
