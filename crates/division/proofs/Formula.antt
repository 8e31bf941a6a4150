-- The formula, once over f, and so of every agreement; what byte 5 does in a message. Assumes nothing.
use mathlib.Core.Path.{◌≡◌, refl, sym, ap, ◌∙◌}
use mathlib.Core.Bool.{Bool, true, false, cond, not, ◌&&◌, and-true}
use mathlib.Core.Option.{Option, some}
use Prim.Native.Nat.{ℕ, ◌-◌, ◌*◌, ◌/◌, ◌%◌, ◌<◌}
use native.Mathlib.Nat.{mul_comm}
use native.Mathlib.Omega.{arith}
use borrow.Author.Tests.{le-ltb}
use lib.ListN.{length}
use Rattle.srp.specs.Bytes.{get}
use Rattle.srp.specs.Messages.{out_format, in_format}
use Rattle.srp.specs.Descriptors.{agrees}
use Rattle.srp.specs.Refusals.{first_of_checks}
use Rattle.srp.specs.Requests.{size_checks}
use Rattle.srp.specs.declared.Refusal.{Refusal}
use Rattle.srp.specs.declared.Refusal.TheVariants.{OutFormat, InFormat}
use Rattle.division.specs.Dividing.{drawn, passes, draws, values, count, division}
use Rattle.division.specs.Formula.{pairs_by, OverF, ByFormula, Allowed, otherwise, InMessage}
use Rattle.division.proofs.Counting.{answered, same}
use Rattle.division.proofs.Counts.{count_same, count_rest, count_all, count_pairs}

-- ── for any test on the digits, of which f pass

module _ (t : ℕ → Bool) where
  left_out : count (λ d. not (t d)) 16 ≡ 16 - count t 16
  left_out = let e = count_rest t 16 in omega arith

  pairs_pass : count (λ b. t (b / 16) && t (b % 16)) values ≡ count t 16 * count t 16
  pairs_pass = count_pairs t t

  pairs_out : count (λ b. not (t (b / 16))) values ≡ 16 * (16 - count t 16)
  pairs_out =
      count_same (λ b. not (t (b / 16))) (λ b. not (t (b / 16)) && true) values (λ j h. sym (and-true (not (t (j / 16)))))
      ∙ count_pairs (λ d. not (t d)) (λ d. true)
      ∙ ap (λ (x : ℕ). count (λ d. not (t d)) 16 * x) (count_all 16)
      ∙ ap (λ (x : ℕ). x * 16) left_out
      ∙ mul_comm (16 - count t 16) 16

  pairs_in : count (λ b. t (b / 16) && not (t (b % 16))) values ≡ count t 16 * (16 - count t 16)
  pairs_in = count_pairs t (λ d. not (t d)) ∙ ap (λ (x : ℕ). count t 16 * x) left_out

pub over_f : OverF
over_f t = same (pairs_pass t) (pairs_out t) (pairs_in t)

-- ── the values of byte 5

passing : (out inn : Bool) → passes (answered out inn) ≡ (out && inn)
passing true true = refl
passing true false = refl
passing false inn = refl

drawing_out : (out inn : Bool) → draws OutFormat (answered out inn) ≡ not out
drawing_out true true = refl
drawing_out true false = refl
drawing_out false inn = refl

drawing_in : (out inn : Bool) → draws InFormat (answered out inn) ≡ (out && not inn)
drawing_in true true = refl
drawing_in true false = refl
drawing_in false inn = refl

module _ (formats : ℕ) where
  -- the out format is the first digit of a value, the in format the second
  abbrev first : ℕ → Bool
  first j = agrees formats (j / 16)

  abbrev second : ℕ → Bool
  second j = agrees formats (j % 16)

  drawn_by : (j : ℕ) → j < values → drawn formats j ≡ answered (first j) (second j)
  drawn_by j h =
      let o : j / 16 % 16 ≡ j / 16 = omega arith in
      let i : j / 1 % 16 ≡ j % 16 = omega arith in
      ap (λ (x : ℕ). answered (agrees formats x) (agrees formats (j / 1 % 16))) o ∙ ap (λ (x : ℕ). answered (first j) (agrees formats x)) i

  -- a test on what is drawn, by the two formats
  by_digits : (p : Option Refusal → Bool) (q : Bool → Bool → Bool) → ((out inn : Bool) → p (answered out inn) ≡ q out inn)
      → count (λ b. p (drawn formats b)) values ≡ count (λ b. q (first b) (second b)) values
  by_digits p q e =
      count_same (λ b. p (drawn formats b)) (λ b. q (first b) (second b)) values (λ j h. ap p (drawn_by j h) ∙ e (first j) (second j))

  as_pairs : division formats ≡ pairs_by (agrees formats)
  as_pairs =
      same (by_digits passes (λ out inn. out && inn) passing) (by_digits (draws OutFormat) (λ out inn. not out) drawing_out)
      (by_digits (draws InFormat) (λ out inn. out && not inn) drawing_in)

pub by_formula : ByFormula
by_formula formats = as_pairs formats ∙ over_f (agrees formats)

pub allowed_are : Allowed
unfolding count
allowed_are formats = omega arith

-- ── in a message: 5 and 6 come before its exact length and its counts

pub in_message : InMessage
in_message formats s long = rw (le-ltb (length s) 48 long) (go (agrees formats (get out_format s)) (agrees formats (get in_format s)))
  where
    go : (out inn : Bool)
        → cond (not out) (some OutFormat) (cond (not inn) (some InFormat) (first_of_checks (size_checks s))) ≡ otherwise (answered out inn) (first_of_checks (size_checks s))
    go true true = refl
    go true false = refl
    go false inn = refl
