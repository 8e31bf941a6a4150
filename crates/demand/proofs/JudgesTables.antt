-- Demand 1 of `srp_target_tables`: the tables are accepted, or draw the refusal that the papers name and no other, and after a refusal the port and each lent
-- buffer hold what the papers say.
-- Assumes nothing.
use mathlib.Core.Path.{◌≡◌, refl, sym, ◌∙◌, ap}
use mathlib.Core.List.{List, []}
use mathlib.Core.Option.{Option, none, some}
use Prim.Native.Nat.{ℕ}
use lib.ListN.{length}
use Rattle.std.specs.Prelude.{Result, Ok, Err}
use Rattle.srp.specs.Refusals.{Conduct, hangs_up, answered, stays, alters_nothing, conduct_of, first_of_checks}
use Rattle.srp.specs.Credit.{Port}
use Rattle.srp.specs.Take.{Outcome, Tables}
use Rattle.srp.specs.Tables.{tables_checks, tables_refused, tables_outcome, tables_by, tables_def}
use Rattle.srp.specs.Answers.{returned}
use Rattle.srp.specs.declared.Refusal.{Refusal}
use Rattle.srp.specs.declared.Reply.{Reply}
use Rattle.srp.specs.declared.Reply.TheVariants.{Performed}
use Rattle.srp.proofs.Refusing.{tables_as}
use Rattle.words.specs.View.{view}
use Rattle.exports.specs.Calls.{TablesInC}
use Rattle.demand.specs.Judgement.{Unaltered, BroughtAs, TablesLeft, JudgesTables}
use Rattle.demand.proofs.Judging.{number_for, not_zero, judge, comes, unaltered}

number_is : (p : Port) (tag : ℕ) (t : Tables) (x : Option Refusal) → returned (tables_by x p tag t).reply ≡ number_for x
number_is p tag t none = refl
number_is p tag t (some f) = ap returned (tables_as p tag f)

-- without an answer nothing is written
unwritten : (c : Conduct) (p : Port) (tag : ℕ) (f : Refusal) → (c ≡ answered → ⊥) → (tables_refused c p tag f).wrote ≡ []
unwritten (hangs_up reason) p tag f ne = refl
unwritten answered p tag f ne = absurd (ne refl)
unwritten stays p tag f ne = refl
unwritten alters_nothing p tag f ne = refl

module _ {l st b l' st' b' : List ℕ} {n : ℕ} {w : List ℕ} (tag : ℕ) (t : Tables) (A : TablesInC l st b l' st' b' tag t n w) where
  by : {x : Option Refusal} → first_of_checks (tables_checks (view l st) (length b) tag t) ≡ x → tables_def (view l st) (length b) tag t ≡ tables_by x (view l st) tag t
  by e = ap (λ (x : Option Refusal). tables_by x (view l st) tag t) e

  accepted : first_of_checks (tables_checks (view l st) (length b) tag t) ≡ none → BroughtAs (tables_outcome (view l st) tag t) l st b l' st' b' w tag
  accepted e = record { comes = comes A.answers.numbers A.answers.call.port A.answers.call.buffer (by e); store = A.store.brought (ap (λ (x : Outcome). x.reply) (by e)) }

  module _ (f : Refusal) (e : first_of_checks (tables_checks (view l st) (length b) tag t) ≡ some f) where
    reply : (tables_def (view l st) (length b) tag t).reply ≡ Err f
    reply = ap (λ (x : Outcome). x.reply) (by e) ∙ tables_as (view l st) tag f

    same : (conduct_of f ≡ answered → ⊥) → Unaltered l b l' b' w
    same ne = unaltered f A.answers reply (ap (λ (x : Outcome). x.wrote) (by e) ∙ unwritten (conduct_of f) (view l st) tag f ne)

    left : TablesLeft l st b l' st' b' w tag f
    left =
        record {
          responded = λ h. comes A.answers.numbers A.answers.call.port A.answers.call.buffer (by e ∙ ap (λ (x : Conduct). tables_refused x (view l st) tag f) h);
          unaltered = same;
          store = A.store.kept (λ q. not_performed (sym reply ∙ q));
        }
      where
        not_performed : ◌≡◌ {A = Result Reply Refusal} (Err f) (Ok Performed) → ⊥
        not_performed q = not_zero f (ap returned q)

pub judges_tables : (l st b l' st' b' : List ℕ) (tag : ℕ) (t : Tables) (n : ℕ) (w : List ℕ) → TablesInC l st b l' st' b' tag t n w → JudgesTables l st b l' st' b' tag t n w
judges_tables l st b l' st' b' tag t n w A =
    judge (tables_checks (view l st) (length b) tag t) n _ _ (A.answers.numbers.number ∙ number_is (view l st) tag t (first_of_checks (tables_checks (view l st) (length b) tag t)))
    (accepted tag t A) (left tag t A)
