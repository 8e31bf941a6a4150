-- How a promise in C says demand 1 of its call. Assumes nothing.
use mathlib.Core.Path.{◌≡◌, refl, sym, ◌∙◌, ap, subst}
use mathlib.Core.Logic.{◌↔◌}
use mathlib.Core.Bool.{Bool, true, false, cond}
use mathlib.Core.List.{List, [], ◌∷◌}
use mathlib.Core.Option.{Option, none, some, none-ne-some, some-ne-none, some-injective}
use Prim.Native.Nat.{ℕ}
use lib.Dec.{ltb}
use native.Mathlib.Omega.{arith}
use Rattle.std.specs.Prelude.{Err}
use Rattle.srp.specs.Limits.{answer_size}
use Rattle.srp.specs.Refusals.{number_of, Check, first_of_checks}
use Rattle.srp.specs.Credit.{Port}
use Rattle.srp.specs.Writing.{placed}
use Rattle.srp.specs.Take.{Outcome}
use Rattle.srp.specs.Calls.{unless}
use Rattle.srp.specs.Answers.{returned, operation_in, size_of, answer_of}
use Rattle.srp.specs.Outside.{CReturn, refusing_c, in_buffer}
use Rattle.srp.specs.declared.Refusal.{Refusal}
use Rattle.srp.specs.declared.Refusal.TheVariants.{ShortBuffer}
use Rattle.srp.proofs.RefusalLaws.{number_range, number_injective}
use Rattle.answer.specs.Words.{answer_words}
use Rattle.words.specs.View.{view}
use Rattle.exports.specs.Answered.{Answered}
use Rattle.exports.specs.Calls.{InC, AnswersInC, StepsInC, RepliesInC}
use Rattle.demand.specs.Judgement.{Judgement, Comes, Unaltered, Handed, no_words, short_answer}

-- ── of any call

-- the number that is returned, by the first check that hits
abbrev pub number_for : Option Refusal → ℕ
number_for none = 0
number_for (some f) = number_of f

pub not_zero : (f : Refusal) → number_of f ≡ 0 → ⊥
not_zero f e = omega (arith, (number_range f).0)

module _ (n : ℕ) where
  numbers_one : (x : Option Refusal) → n ≡ number_for x → (f : Refusal) → (n ≡ number_of f) ↔ (x ≡ some f)
  numbers_one none e f = ((λ q. absurd (not_zero f (sym q ∙ e))), (λ q. absurd (none-ne-some f q)))
  numbers_one (some g) e f = ((λ q. ap some (number_injective g f (sym e ∙ q))), (λ q. e ∙ ap number_of (some-injective g f q)))

  numbers_none : (x : Option Refusal) → n ≡ number_for x → (n ≡ 0) ↔ (x ≡ none)
  numbers_none none e = ((λ q. refl), (λ q. e))
  numbers_none (some g) e = ((λ q. absurd (not_zero g (sym e ∙ q))), (λ q. absurd (some-ne-none g q)))

-- a call whose number is that of the first check that hits
pub judge : (checks : List Check) (n : ℕ) (Performs : Type 0) (Leaves : Refusal → Type 0) → n ≡ number_for (first_of_checks checks)
    → (first_of_checks checks ≡ none → Performs)
    → ((f : Refusal) → first_of_checks checks ≡ some f → Leaves f)
    → Judgement checks n Performs Leaves
judge checks n P L e p q =
    record { refuses = numbers_one n (first_of_checks checks) e; unrefused = numbers_none n (first_of_checks checks) e; performs = p; leaves = q }

-- ── of a call with words and a lent buffer

-- what it comes to
pub comes : {l' st' b b' : List ℕ} {n : ℕ} {w : List ℕ} {o x : Outcome} → InC n w o → view l' st' ≡ o.port → b' ≡ placed o.wrote b → o ≡ x → Comes x l' st' b b' w
comes {l'} {st'} {b} {b'} {n} {w} N port buffer is = subst (λ (y : Outcome). Comes y l' st' b b' w) is (record { words = N.words; port = port; buffer = buffer })

-- a refusal without a message alters nothing
pub unaltered : {l st b l' st' b' : List ℕ} {n : ℕ} {w : List ℕ} {o : Outcome} (f : Refusal) → AnswersInC l st b l' st' b' n w o → o.reply ≡ Err f → o.wrote ≡ []
    → Unaltered l b l' b' w
unaltered {b = b} f A refused silent =
    record {
      words = A.numbers.words ∙ (λ i. answer_words (record { reply = refused i; wrote = size_of (silent i) }));
      port = (A.call.raw (λ z. not_zero f (sym (ap returned refused) ∙ z)) (ap size_of silent)).0;
      buffer = A.call.buffer ∙ ap (λ (ms : List (List ℕ)). placed ms b) silent;
    }

-- ── of a call that is refused by its first check that hits, or comes to the outcome o

module _ (p : Port) (o : Outcome) (unrefused : returned o.reply ≡ 0) where
  number_is : (x : Option Refusal) → returned (unless x p o).reply ≡ number_for x
  number_is none = unrefused
  number_is (some f) = refl

  -- with words and a lent buffer
  pub judge_answers : (checks : List Check) (l st b l' st' b' : List ℕ) (n : ℕ) (w : List ℕ) → AnswersInC l st b l' st' b' n w (unless (first_of_checks checks) p o)
      → Judgement checks n (Comes o l' st' b b' w) (λ f. Unaltered l b l' b' w)
  judge_answers checks l st b l' st' b' n w A =
      judge checks n (Comes o l' st' b b' w) (λ f. Unaltered l b l' b' w) (A.numbers.number ∙ number_is (first_of_checks checks))
      (λ e. comes A.numbers A.call.port A.call.buffer (ap (λ (x : Option Refusal). unless x p o) e))
      (λ f e. unaltered f A (ap (λ (x : Option Refusal). (unless x p o).reply) e) (ap (λ (x : Option Refusal). (unless x p o).wrote) e))

  -- without words and buffer
  pub judge_replies : (checks : List Check) (l st l' : List ℕ) (n : ℕ) → RepliesInC l st l' n (unless (first_of_checks checks) p o)
      → Judgement checks n (view l' st ≡ o.port) (λ f. l' ≡ l)
  judge_replies checks l st l' n R =
      judge checks n (view l' st ≡ o.port) (λ f. l' ≡ l) (R.number ∙ number_is (first_of_checks checks))
      (λ e. R.call.port ∙ ap (λ (x : Option Refusal). (unless x p o).port) e)
      (λ f e. (R.call.raw (λ z. not_zero f (sym (ap (λ (x : Option Refusal). returned (unless x p o).reply) e) ∙ z))).0)

  -- with words alone
  pub judge_numbers : (checks : List Check) (n : ℕ) (w : List ℕ) → InC n w (unless (first_of_checks checks) p o)
      → Judgement checks n (w ≡ answer_words (answer_of o)) (λ f. w ≡ no_words)
  judge_numbers checks n w N =
      judge checks n (w ≡ answer_words (answer_of o)) (λ f. w ≡ no_words) (N.number ∙ number_is (first_of_checks checks))
      (λ e. N.words ∙ ap (λ (x : Option Refusal). answer_words (answer_of (unless x p o))) e)
      (λ f e. N.words ∙ ap (λ (x : Option Refusal). answer_words (answer_of (unless x p o))) e)

  -- step, turn: with words and no buffer; `same` is asked where no check hits, of a refusal the contract has it
  pub judge_steps : (checks : List Check) (l st l' : List ℕ) (n : ℕ) (w : List ℕ) → StepsInC l st l' n w (unless (first_of_checks checks) p o)
      → (unless (first_of_checks checks) p o ≡ o → operation_in o.reply ≡ none → l' ≡ l)
      → Judgement checks n (Handed o l l' st w) (λ f. (w ≡ no_words) × (l' ≡ l))
  judge_steps checks l st l' n w S same =
      judge checks n (Handed o l l' st w) (λ f. (w ≡ no_words) × (l' ≡ l)) (S.numbers.number ∙ number_is (first_of_checks checks))
      (λ e. record {
        words = S.numbers.words ∙ ap (λ (x : Option Refusal). answer_words (answer_of (unless x p o))) e;
        port = S.call.port ∙ ap (λ (x : Option Refusal). (unless x p o).port) e;
        nothing = same (ap (λ (x : Option Refusal). unless x p o) e);
      })
      (λ f e. (
        S.numbers.words ∙ ap (λ (x : Option Refusal). answer_words (answer_of (unless x p o))) e,
        (S.call.raw (λ z. not_zero f (sym (ap (λ (x : Option Refusal). returned (unless x p o).reply) e) ∙ z))).0,
      ))

-- ── look and the cut: g is what C is given, by the first check that hits

module _ (g : Option Refusal → CReturn) (refused : (f : Refusal) → g (some f) ≡ refusing_c f) (unrefused : (g none).returns ≡ 0) where
  pub judge_bytes : (checks : List Check) (room n : ℕ) (b b' : List ℕ) → Answered n b b' (in_buffer room (g (first_of_checks checks)))
      → Judgement (short_answer room ∷ checks) n (b' ≡ placed (g none).wrote b) (λ f. b' ≡ b)
  judge_bytes checks room n b b' A =
      judge (short_answer room ∷ checks) n (b' ≡ placed (g none).wrote b) (λ f. b' ≡ b)
      (A.number ∙ ap (λ (a : CReturn). a.returns) first ∙ number (first_of_checks (short_answer room ∷ checks)))
      (λ e. A.buffer ∙ ap (λ (a : CReturn). placed a.wrote b) (first ∙ ap g e))
      (λ f e. A.buffer ∙ ap (λ (a : CReturn). placed a.wrote b) (first ∙ ap g e ∙ refused f))
    where
      first_of_lem : (t : Bool) (x : Option Refusal) → cond t (refusing_c ShortBuffer) (g x) ≡ g (cond t (some ShortBuffer) x)
      first_of_lem true x = sym (refused ShortBuffer)
      first_of_lem false x = refl

      first : in_buffer room (g (first_of_checks checks)) ≡ g (first_of_checks (short_answer room ∷ checks))
      first = first_of_lem (ltb room answer_size) (first_of_checks checks)

      number : (x : Option Refusal) → (g x).returns ≡ number_for x
      number none = unrefused
      number (some f) = ap (λ (a : CReturn). a.returns) (refused f)
