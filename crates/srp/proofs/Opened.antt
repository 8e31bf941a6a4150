-- What a login leaves: the port that an accepted one opens, and that it has the ranges.
-- Assumes nothing.
use mathlib.Core.Path.{◌≡◌, refl}
use mathlib.Core.List.{List}
use mathlib.Core.Option.{Option, none, some}
use Prim.Native.Nat.{ℕ}
use native.Mathlib.Omega.{arith}
use Rattle.std.specs.Prelude.{Ok}
use Rattle.srp.specs.Refusals.{first_of_checks}
use Rattle.srp.specs.Login.{login_checks, rejections, opened, judged, login_by, login_def, bad_settings_lem}
use Rattle.srp.specs.declared.Refusal.{Refusal}
use Rattle.srp.specs.declared.Settings.{Settings}
use Rattle.srp.specs.declared.Reply.TheVariants.{Accepted}
use mathlib.Core.Logic.{inl, inr}
use mathlib.Core.Bool.{false}
use lib.Dec.{ltb, eqb}
use borrow.Author.Tests.{ltb-false, eqb-false}
use Rattle.srp.specs.Cutting.{bad_maximum, bad_boundary}
use Rattle.srp.specs.Ranges.{Ranged}
use Rattle.srp.proofs.Checks.{passes, both_false}

-- an accepted login opens the port
pub opens : (c : Settings) (own : List ℕ) (room : ℕ) (l : List ℕ) → (login_def c own room l).reply ≡ Ok Accepted → (login_def c own room l).port ≡ opened c l
opens c own room l = go (first_of_checks (login_checks c room l))
  where
    unrejected : (w : Option ℕ) → (judged w c l).reply ≡ Ok Accepted → (judged w c l).port ≡ opened c l
    unrejected none e = refl
    unrejected (some n) e = let z : ◌≡◌ {A = ℕ} 0 1 = cc in absurd (omega arith)

    go : (v : Option Refusal) → (login_by v c own l).reply ≡ Ok Accepted → (login_by v c own l).port ≡ opened c l
    go none e = unrejected (first_of_checks (rejections c own l)) e
    go (some r) e = let z : ◌≡◌ {A = ℕ} 0 1 = cc in absurd (omega arith)

-- a login leaves the closed port, or one with the ranges
pub login_kept : (c : Settings) (own : List ℕ) (room : ℕ) (s : List ℕ) → Ranged (login_def c own room s).port
login_kept c own room s = go (first_of_checks (login_checks c room s)) refl
  where
    opens : bad_settings_lem c ≡ false → (r : Option ℕ) → Ranged (judged r c s).port
    opens e none =
        let a = both_false (eqb c.buffers 0) _ e in
        let b = both_false (ltb 16 c.buffers) _ a.1 in
        let d = both_false (bad_maximum c.maximum) _ b.1 in
        let m = both_false (eqb c.maximum 0) (ltb 1048576 c.maximum) d.0 in
        let few = ltb-false 16 c.buffers b.0 in
        inr (record {
          live = refl;
          least = omega (arith, eqb-false c.buffers 0 a.0);
          most = few;
          room = omega arith;
          smallest = omega (arith, eqb-false c.maximum 0 m.0);
          largest = ltb-false 1048576 c.maximum m.1;
          boundary = (both_false (bad_boundary c.boundary) _ d.1).0;
          commands = tt;
          distinct = tt;
          line = record { each = λ tag d. refl; once = tt };
        })
    opens e (some r) = inl refl

    go : (r : Option Refusal) → first_of_checks (login_checks c room s) ≡ r → Ranged (login_by r c own s).port
    go none e = opens (passes (login_checks c room s) e).1.0 (first_of_checks (rejections c own s))
    go (some r) e = inl refl
