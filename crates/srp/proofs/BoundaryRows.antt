-- The rows of specs/BoundaryRows.antt hold of the definitions.
-- Assumes nothing.
use mathlib.Core.Path.{◌≡◌, refl}
use mathlib.Core.Bool.{true, false}
use mathlib.Core.List.{◌∷◌, map}
use Prim.Native.Nat.{ℕ}
use lib.ListN.{replicate}
use Rattle.srp.specs.Cutting.{longest_at_lem, bad_boundary}
use Rattle.srp.specs.BoundaryRows.{powers, bad, Place, lengths}

pub good_ones : map bad_boundary (0 ∷ powers) ≡ replicate 25 false
unfolding bad_boundary
good_ones = refl

pub bad_ones : map bad_boundary bad ≡ replicate 20 true
unfolding bad_boundary
bad_ones = refl

pub lengths_hold : map (λ (r : Place × ℕ). longest_at_lem r.0.maximum r.0.boundary r.0.address) lengths ≡ map (λ (r : Place × ℕ). r.1) lengths
unfolding longest_at_lem
lengths_hold = refl
