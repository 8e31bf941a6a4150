-- Demand 1 of `srp_target_take`: a message is taken, or draws the refusal that document 01 names and no other, and after a refusal the port and each
-- lent buffer hold what document 01 says.
-- Assumes nothing.
use mathlib.Core.Path.{◌≡◌, refl, sym, ◌∙◌, ap, subst}
use mathlib.Core.Bool.{Bool, true, false, cond, not, true≢false}
use mathlib.Core.List.{List, []}
use mathlib.Core.Option.{Option, none, some, some-injective}
use Prim.Native.Nat.{ℕ}
use lib.Dec.{ltb}
use borrow.Author.Tests.{not-false}
use lib.ListN.{length}
use Rattle.std.specs.Prelude.{Ok, Err}
use Rattle.srp.specs.Limits.{buffer_size}
use Rattle.srp.specs.Refusals.{Conduct, hangs_up, answered, stays, alters_nothing, conduct_of, first_of_checks}
use Rattle.srp.specs.Credit.{Port}
use Rattle.srp.specs.Writing.{placed}
use Rattle.srp.specs.Take.{Outcome, later_checks, take_checks, conducted, refused_by, accepted, take_by, take_def}
use Rattle.srp.specs.Order.{take_order}
use Rattle.srp.specs.Answers.{returned, answer_of}
use Rattle.srp.specs.declared.Refusal.{Refusal}
use Rattle.srp.specs.declared.Refusal.TheVariants.{ShortBuffer, Closed}
use Rattle.srp.specs.Requests.{Reading}
use Rattle.srp.specs.declared.Message.TheVariants.{Cmd, TskMgmt, CredRsp, ILogout}
use Rattle.srp.proofs.Checks.{passes}
use Rattle.srp.proofs.Refusing.{refused_as, take_order_lem}
use Rattle.answer.specs.Words.{answer_words}
use Rattle.words.specs.View.{view}
use Rattle.take.specs.Taking.{takes_command, Stores}
use Rattle.exports.specs.Calls.{TakeInC}
use Rattle.demand.specs.Judgement.{Unaltered, read_on, TakenAs, Left, JudgesTake}
use Rattle.demand.proofs.Judging.{number_for, judge, comes, unaltered}

-- ── of the definition

module _ (p : Port) (room : ℕ) (s : List ℕ) where
  take_number : (m : Reading) (x : Option Refusal) → first_of_checks (take_checks p room s m) ≡ x → returned (take_by x p s m).reply ≡ number_for x
  take_number m (some f) e = ap returned (refused_as p m f)
  take_number (Err r) none e = absurd (true≢false (passes (take_checks p room s (Err r)) e).1.1.0)
  take_number (Ok (Cmd c)) none e = refl
  take_number (Ok (TskMgmt k)) none e = refl
  take_number (Ok (CredRsp g)) none e = refl
  take_number (Ok ILogout) none e = refl

  -- take goes by the first of document 01's list that hits
  by_order : take_def p room s ≡ take_by (first_of_checks (take_order p room s)) p s (read_on p s)
  by_order = ap (λ (x : Option Refusal). take_by x p s (read_on p s)) (sym (take_order_lem p room s))

  order_number : returned (take_def p room s).reply ≡ number_for (first_of_checks (take_order p room s))
  order_number = take_number (read_on p s) (first_of_checks (take_checks p room s (read_on p s))) refl ∙ ap number_for (sym (take_order_lem p room s))

  -- it hangs up only while the channel is open: 1 and 21 do not hang up
  hangs_open : (f : Refusal) → first_of_checks (take_order p room s) ≡ some f → (reason : ℕ) → conduct_of f ≡ hangs_up reason → p.live ≡ true
  hangs_open f e reason h = go (ltb room buffer_size) p.live (first_of_checks (later_checks p s (read_on p s))) (sym (take_order_lem p room s) ∙ e)
    where
      -- what the first check's refusal does
      does : (r : Refusal) → some r ≡ some f → conduct_of r ≡ hangs_up reason
      does r q = ap conduct_of (some-injective r f q) ∙ h

      go : (a b : Bool) (v : Option Refusal) → cond a (some ShortBuffer) (cond (not b) (some Closed) v) ≡ some f → b ≡ true
      go true b v q = let z : stays ≡ hangs_up reason = does ShortBuffer q in cc
      go false true v q = refl
      go false false v q = let z : alters_nothing ≡ hangs_up reason = does Closed q in cc

-- ── of the contract

module _ {l st b l' st' b' : List ℕ} {n : ℕ} {w : List ℕ} (s : List ℕ) (A : TakeInC l st b l' st' b' s n w) where
  -- where none of document 01's checks hits, the message is taken
  taken : first_of_checks (take_order (view l st) (length b) s) ≡ none → TakenAs (accepted (view l st) s (read_on (view l st) s)) l st b l' st' b' w
  taken e =
      let is : take_def (view l st) (length b) s ≡ accepted (view l st) s (read_on (view l st) s) =
      by_order (view l st) (length b) s ∙ ap (λ (x : Option Refusal). take_by x (view l st) s (read_on (view l st) s)) e in
      let port : view l' st' ≡ (accepted (view l st) s (read_on (view l st) s)).port = A.answers.call.port ∙ ap (λ (x : Outcome). x.port) is in
      record {
        comes = comes A.answers.numbers A.answers.call.port A.answers.call.buffer is;
        store = subst (λ (x : Outcome). Stores l st l' st' x.reply) is A.store;
        closed = λ h.
            A.answers.call.closed (not-false (view l st).live (passes (take_order (view l st) (length b) s) e).1.0) (ap (λ (x : Port). x.live) port ∙ h);
      }

  module _ (f : Refusal) (e : first_of_checks (take_order (view l st) (length b) s) ≡ some f) where
    refused : take_def (view l st) (length b) s ≡ refused_by (view l st) (read_on (view l st) s) f
    refused = by_order (view l st) (length b) s ∙ ap (λ (x : Option Refusal). take_by x (view l st) s (read_on (view l st) s)) e

    words_are : w ≡ answer_words (answer_of (refused_by (view l st) (read_on (view l st) s) f))
    words_are = A.answers.numbers.words ∙ ap (λ (x : Outcome). answer_words (answer_of x)) refused

    -- what it comes to, by its conduct
    module _ (c : Conduct) (is : conduct_of f ≡ c) where
      outcome : take_def (view l st) (length b) s ≡ conducted c (view l st) (read_on (view l st) s) f
      outcome = refused ∙ ap (λ (x : Conduct). conducted x (view l st) (read_on (view l st) s) f) is

      port_is : view l' st' ≡ (conducted c (view l st) (read_on (view l st) s) f).port
      port_is = A.answers.call.port ∙ ap (λ (x : Outcome). x.port) outcome

      buffer_is : b' ≡ placed (conducted c (view l st) (read_on (view l st) s) f).wrote b
      buffer_is = A.answers.call.buffer ∙ ap (λ (x : Outcome). placed x.wrote b) outcome

      -- nothing is altered where nothing is written
      same : (conducted c (view l st) (read_on (view l st) s) f).wrote ≡ [] → Unaltered l b l' b' w
      same z =
          unaltered f A.answers (ap (λ (x : Outcome). x.reply) refused ∙ refused_as (view l st) (read_on (view l st) s) f) (ap (λ (x : Outcome). x.wrote) outcome ∙ z)

    left : Left l st b l' st' b' s w f
    left =
        record {
          words = words_are;
          hung_up = λ reason h.
              let v = port_is (hangs_up reason) h in (
                A.answers.call.closed (hangs_open (view l st) (length b) s f e reason h) (ap (λ (x : Port). x.live) v),
                v,
                buffer_is (hangs_up reason) h,
              );
          responded = λ h. (port_is answered h, buffer_is answered h);
          stayed = λ h. same stays h refl;
          unaltered = λ h. same alters_nothing h refl;
          store = A.store.kept (ap (λ (x : Outcome). takes_command x.reply) refused ∙ ap takes_command (refused_as (view l st) (read_on (view l st) s) f));
        }

pub judges_take : (l st b l' st' b' s : List ℕ) (n : ℕ) (w : List ℕ) → TakeInC l st b l' st' b' s n w → JudgesTake l st b l' st' b' s n w
judges_take l st b l' st' b' s n w A =
    judge (take_order (view l st) (length b) s) n _ _ (A.answers.numbers.number ∙ order_number (view l st) (length b) s) (taken s A) (left s A)
