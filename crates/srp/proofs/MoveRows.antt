-- The rows of specs/MoveRows.antt hold of the definitions, and of its lists one is a `Rival`, without boundaries alone, and three are not.
-- Assumes nothing.
use mathlib.Core.Path.{◌≡◌, refl}
use mathlib.Core.Logic.{inl, inr, ⊎_elim}
use mathlib.Core.List.{map}
use native.Mathlib.Omega.{arith}
use Rattle.srp.specs.Cutting.{longest_at_lem, piece}
use Rattle.srp.specs.Fewest.{Rival}
use Rattle.srp.specs.MoveRows.{Moving, Counts, counts_of_lem, rows, terms, bounded_terms, two, halves, crossing, too_long, unfinished}
use Rattle.srp.proofs.Boundaries.{no_boundary}

pub rows_hold : map (λ (r : Moving × Counts). counts_of_lem r.0) rows ≡ map (λ (r : Moving × Counts). r.1) rows
unfolding longest_at_lem
rows_hold = refl

pub halves_rival : Rival terms 0 700 two halves
halves_rival =
    record {
      covers = refl;
      in_order = (refl, (refl, (refl, tt)));
      inside = (
        inl (record { after = omega arith; place = refl; ends = omega arith; handle = refl }),
        (
          inl (record { after = omega arith; place = refl; ends = omega arith; handle = refl }),
          (
            inr (inl (record { after = omega arith; place = refl; ends = omega arith; handle = refl })),
            tt,
          ),
        ),
      );
      allowed = (
        (omega arith, no_boundary (piece 0x3000 7 300 0)),
        ((omega arith, no_boundary (piece 0x312c 7 300 300)), ((omega arith, no_boundary (piece 0x3258 7 100 600)), tt)),
      );
    }

-- the second half starts below 25 times 512 and ends above it
pub halves_none : Rival bounded_terms 0 700 two halves → ⊥
halves_none r = omega (arith, r.allowed.1.0.1 25 (omega arith))

pub crossing_none : Rival terms 0 700 two crossing → ⊥
crossing_none r = ⊎_elim (λ i. omega (arith, i.ends)) (λ v. ⊎_elim (λ i. omega (arith, i.after)) (λ w. w) v) r.inside.1.0

pub too_long_none : Rival terms 0 700 two too_long → ⊥
too_long_none r = omega (arith, r.allowed.0.0)

pub unfinished_none : Rival terms 0 700 two unfinished → ⊥
unfinished_none r = omega (arith, r.covers)
