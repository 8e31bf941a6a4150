-- Going through the values: each adds one to where it leads.
-- Assumes nothing.
use mathlib.Core.Path.{◌≡◌, refl, ap, ◌∙◌}
use mathlib.Core.Bool.{Bool, true, false, not}
use mathlib.Core.List.{[], ◌∷◌}
use mathlib.Core.Option.{Option}
use Prim.Native.Nat.{ℕ, zero, suc, ◌+◌, ◌/◌, ◌%◌, ◌^◌, ◌≤◌, ◌<◌}
use native.Mathlib.Numerals.{add-one}
use native.Mathlib.Omega.{arith}
use Rattle.std.specs.declared.result.Result.TheVariants.{Ok}
use Rattle.srp.specs.Limits.{both_formats}
use Rattle.srp.specs.Descriptors.{agrees}
use Rattle.srp.specs.Bytes.{bit}
use Rattle.srp.specs.Refusals.{first_of_checks}
use Rattle.srp.specs.Requests.{other_formats_lem}
use Rattle.srp.specs.declared.Refusal.TheVariants.{OutFormat, InFormat}
use Rattle.srp.specs.declared.Refusal.{Refusal}
use Rattle.division.specs.Dividing.{drawn, passes, draws, values, count, division_below, division, divide_def, counted_in}
use Rattle.division.specs.declared.Division.{Division}

-- ── one value

-- what it draws, where its out format is agreed or not, and its in format
abbrev pub answered : (out inn : Bool) → Option Refusal
answered out inn = first_of_checks ((not out, OutFormat) ∷ (not inn, InFormat) ∷ [])

-- ── all values

few : (p : ℕ → Bool) (n : ℕ) → count p n ≤ n
unfolding count
few p zero = omega arith
few p (suc n) = go (p n) (few p n)
  where
    go : (b : Bool) → count p n ≤ n → bit b + count p n ≤ suc n
    go true h = omega arith
    go false h = omega arith

-- while values are left, no count is as high as their number
pub below : (formats n : ℕ) {d : Division} → d ≡ division_below formats n → n < values → (d.pass < values) × (d.out < values) × (d.inn < values)
below formats n {d} e h =
    rw e
    (omega (arith, few (λ b. passes (drawn formats b)) n), omega (arith, few (λ b. draws OutFormat (drawn formats b)) n), omega (arith, few (λ b. draws InFormat (drawn formats b)) n))

pub at_most : (formats : ℕ) → ((division formats).pass ≤ values) × ((division formats).out ≤ values) × ((division formats).inn ≤ values)
at_most formats = (few (λ b. passes (drawn formats b)) values, few (λ b. draws OutFormat (drawn formats b)) values, few (λ b. draws InFormat (drawn formats b)) values)

abbrev pub dividing : ℕ → ℕ → ℕ → Division
dividing x y z = record { pass = x; out = y; inn = z }

pub same : {x y z x' y' z' : ℕ} → x ≡ x' → y ≡ y' → z ≡ z' → dividing x y z ≡ dividing x' y' z'
same p q r = rw (p, q, r)

added : (out inn : Bool) (x y z : ℕ)
    → let a = answered out inn in
    counted_in (dividing x y z) a ≡ dividing (bit (passes a) + x) (bit (draws OutFormat a) + y) (bit (draws InFormat a) + z)
added true true x y z = same (omega arith) (omega arith) (omega arith)
added true false x y z = same (omega arith) (omega arith) (omega arith)
added false b x y z = same (omega arith) (omega arith) (omega arith)

-- one value more
more : (formats n : ℕ) → counted_in (division_below formats n) (drawn formats n) ≡ division_below formats (n + 1)
unfolding count
more formats n =
    rw (add-one n)
    (added (agrees formats (n / 2 ^ 4 % 2 ^ 4)) (agrees formats (n / 2 ^ 0 % 2 ^ 4)) (count (λ b. passes (drawn formats b)) n) (count (λ b. draws OutFormat (drawn formats b)) n) (count (λ b. draws InFormat (drawn formats b)) n))

none_yet : (formats : ℕ) → dividing 0 0 0 ≡ division_below formats 0
unfolding count
none_yet formats = refl

-- the loop's invariant
pub record Counting (formats : ℕ) (d : Division) (byte : ℕ) : Type 0 where
  pub bound : byte ≤ values
  pub counts : d ≡ division_below formats byte

pub start : (formats : ℕ) → Counting formats (dividing 0 0 0) 0
start formats = record { bound = omega arith; counts = none_yet formats }

pub on : {formats byte : ℕ} {d d' : Division} → Counting formats d byte → byte < values → d' ≡ counted_in d (drawn formats byte) → Counting formats d' (byte + 1)
on {formats} {byte} {d} {d'} w h ed =
    record { bound = omega arith; counts = ed ∙ ap (λ (x : Division). counted_in x (drawn formats byte)) w.counts ∙ more formats byte }

-- ── the call

pub all_counted : (formats : ℕ) → other_formats_lem both_formats formats ≡ false → {d : Division} → Counting formats d values → Ok d ≡ divide_def formats
all_counted formats e {d} w = rw e (ap (λ (x : Division). Ok x) w.counts)
