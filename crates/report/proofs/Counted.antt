-- The counters of an open port; D, the difference of two small numbers, as the code computes it, in 64 bits with a sign.
-- Assumes nothing.
use mathlib.Core.Path.{◌≡◌, refl, ap, ◌∙◌}
use mathlib.Core.Bool.{true}
use Prim.Native.Nat.{ℕ, zero, suc, ◌+◌, ◌<◌}
use native.Mathlib.Omega.{arith}
use lib.IntN.{ℤ, pos, sub_ℕ, ◌-ℤ◌}
use borrow.Author.Tests.{le-ltb}
use lib.ListN.{length}
use Rattle.std.specs.Prelude.{Ok}
use Rattle.srp.specs.Credit.{Port}
use Rattle.srp.specs.Calls.{counters_def}
use Rattle.srp.specs.declared.Reply.TheVariants.{Counts}
use mir.Syntax.{w64}
use mir.Val.{of_z, to_z}
use Rattle.std.proofs.lemmas.Int.{ints}

minus : (a b : ℕ) → pos a -ℤ pos b ≡ sub_ℕ a b
minus a zero = rw (le-ltb a 0 (omega arith)) (ap pos (omega arith))
minus a (suc b) = refl

pub difference : (a b : ℕ) → a < 256 → b < 256 → to_z w64 (of_z w64 (to_z w64 a -ℤ to_z w64 b)) ≡ sub_ℕ a b
difference a b h k =
    let e : to_z w64 (of_z w64 (to_z w64 a -ℤ to_z w64 b)) ≡ pos a -ℤ pos b = omega (arith, ints) in
    e ∙ minus a b

pub counts : (p : Port) (w a h : ℕ) (d : ℤ) → p.live ≡ true → p.wanted ≡ w → p.announced ≡ a → length p.held ≡ h → d ≡ sub_ℕ w (a + h)
    → (counters_def p).reply ≡ Ok (Counts (record { wanted = w; announced = a; held = h; owed = d }))
counts p w a h d live e f g q = rw (live, e, f, g, q) refl
