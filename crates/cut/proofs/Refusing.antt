-- What the cut comes to where none of its checks hits.
-- Assumes nothing.
use Rattle.std.proofs.Common.{◌≡◌, ℕ, ◌%◌, ◌^◌, ◌<◌, ◌≤◌, min, Bool, true, false, cond, not, ◌||◌, eqb, ltb, leb, List, length, refl, ap, ◌∙◌, arith, le-ltb, eq-eqb, ne_eqb}
use mathlib.Core.Option.{Option, none, some}
use borrow.Author.Tests.{lt-leb}
use Rattle.srp.specs.Limits.{largest_piece, longest_table}
use Rattle.srp.specs.Descriptors.{Segment, segments_of, sum_of, reachable}
use Rattle.srp.specs.Cutting.{up_to, next, bad_maximum, bad_boundary, cut_next, cut_def}
use Rattle.srp.specs.declared.Piece.{Piece}
use Rattle.std.specs.declared.result.Result.TheVariants.{Ok}
use Rattle.srp.proofs.CutLaws.{up_to_lem}
use Rattle.srp.proofs.Pieces.{wrapped_same}
use Rattle.cut.specs.Walk.{total_of, next_wrapped}
use Rattle.std.specs.declared.option.Option.TheVariants.{None, Some}

-- a sum tells of the test before it
pub no_sum : (b : Bool) (n : ℕ) → cond b (Some n) None ≡ None → b ≡ false
no_sum true n e = let z : ◌≡◌ {A = ℕ} 0 1 = cc in let q : ⊥ = omega arith in absurd q
no_sum false n e = refl

pub is_sum : (b : Bool) (m n : ℕ) → cond b (Some m) None ≡ Some n → (b ≡ true) × (n ≡ m)
is_sum true m n e = (refl, cc)
is_sum false m n e = let z : ◌≡◌ {A = ℕ} 0 1 = cc in let q : ⊥ = omega arith in absurd q

-- ── the cut that no check refuses

module _ (list : List ℕ) (M Q R handed : ℕ) where
  abbrev ss : List Segment
  ss = segments_of list

  abbrev found : Option Piece
  found = next (up_to M Q) handed (min R (sum_of ss)) ss

  module _ (m : M ≡ 0 → ⊥) (m' : M ≤ largest_piece) (q : bad_boundary Q ≡ false) (l : length list % 16 ≡ 0) (l' : length list ≤ longest_table) where
    setting_fine : (bad_maximum M || bad_boundary Q) ≡ false
    setting_fine = rw (ne_eqb M 0 m, le-ltb largest_piece M m', q)

    list_fine : (not (eqb (length list % 16) 0) || ltb longest_table (length list)) ≡ false
    list_fine = rw (eq-eqb (length list % 16) 0 l, le-ltb longest_table (length list) l')

    module _ {n : ℕ} (t : total_of ss ≡ Some n) (t' : n < 2 ^ 32) {to : ℕ} (e : to ≡ min R n) where
      told : (reachable ss ≡ true) × (n ≡ sum_of ss)
      told = is_sum (reachable ss) (sum_of ss) n t

      segments_fine : (not (reachable ss) || leb (2 ^ 32) (sum_of ss)) ≡ false
      segments_fine = rw (told.0, lt-leb (2 ^ 32) (sum_of ss) (omega (arith, told.1)))

      to_is : to ≡ min R (sum_of ss)
      to_is = e ∙ ap (min R) told.1

      pub next_is : handed ≤ to → Ok (next_wrapped (next (up_to M Q) handed to ss)) ≡ cut_def list M Q R handed
      next_is h =
          ap (λ (k : ℕ). Ok (next_wrapped (next (up_to M Q) handed k ss))) to_is
          ∙ ap Ok (go found refl)
          ∙ rw (setting_fine, list_fine, segments_fine, rw to_is at (le-ltb to handed h))
        where
          go : (o : Option Piece) → found ≡ o → next_wrapped o ≡ cut_next o
          go none z = refl
          go (some x) z = ap Some (wrapped_same (up_to M Q) handed (min R (sum_of ss)) ss x told.0 (up_to_lem M Q (omega arith)) z)
