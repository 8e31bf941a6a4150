-- The listing: what its reply says of its records; they stand first in the lent list, and the rest of the list is untouched.
-- Assumes nothing.
use mathlib.Core.Path.{◌≡◌, refl, sym, ap, ◌∙◌}
use mathlib.Core.Bool.{Bool, true, false}
use mathlib.Core.List.{List, []}
use mathlib.Core.Option.{Option, none, some}
use Prim.Native.Nat.{ℕ, ◌+◌, ◌≤◌}
use native.Mathlib.Omega.{arith}
use lib.ListN.{length, take, drop, get_or, length-append, length-drop, length-map}
use lib.Seq.{take_at, drop_at, get_or-drop}
use Rattle.std.specs.Prelude.{Result, Ok}
use Rattle.srp.specs.Limits.{most_buffers}
use Rattle.srp.specs.Refusals.{first_of_checks}
use Rattle.srp.specs.Lists.{over}
use Rattle.srp.specs.Credit.{Port}
use Rattle.srp.specs.Calls.{unless, record_of_lem, listing, list_checks, list_outcome, list_def, records_by, records_for}
use Rattle.srp.specs.declared.Refusal.{Refusal}
use Rattle.srp.specs.declared.Reply.{Reply}
use Rattle.srp.specs.declared.Reply.TheVariants.{Listed}

module _ (p : Port) (room : ℕ) where
  -- an unrefused listing says how many commands are open, and writes the record of each
  pub listed_all : (n : ℕ) → Ok (Listed n) ≡ (list_def p room).reply → (n ≡ length p.held) × (records_for p room ≡ listing p)
  listed_all n = go (first_of_checks (list_checks p room))
    where
      go : (x : Option Refusal) → Ok (Listed n) ≡ (unless x p (list_outcome p)).reply → (n ≡ length p.held) × (records_by x p ≡ listing p)
      go none q = (cc, refl)
      go (some f) q = let z : ◌≡◌ {A = ℕ} 0 1 = cc in absurd (omega arith)

  -- a refused one writes none
  pub refused_none : (r : Result Reply Refusal) → r ≡ (list_def p room).reply → ((n : ℕ) → r ≡ Ok (Listed n) → ⊥) → records_for p room ≡ []
  refused_none r q k = go (first_of_checks (list_checks p room)) q
    where
      go : (x : Option Refusal) → r ≡ (unless x p (list_outcome p)).reply → records_by x p ≡ []
      go none q = absurd (k (length p.held) q)
      go (some f) q = refl

module _ (p : Port) where
  -- a list of 16 has room for every listing of an open port
  pub open_all : p.live ≡ true → records_for p most_buffers ≡ listing p
  open_all e = rw e

  pub closed_none : (room : ℕ) → p.live ≡ false → records_for p room ≡ []
  closed_none room e = rw e

  -- so what one list has room for, a list of 16 has
  pub room_for_all : (room : ℕ) → records_for p room ≡ listing p → records_for p most_buffers ≡ listing p
  room_for_all room e = go p.live refl
    where
      go : (b : Bool) → p.live ≡ b → records_for p most_buffers ≡ listing p
      go true l = open_all l
      go false l = closed_none most_buffers l ∙ sym (closed_none room l) ∙ e

-- ── the list after it

module _ {A : Type 0} (xs before : List A) where
  -- what is written stands first
  pub first_written : take (length xs) (over xs before) ≡ xs
  first_written = take_at xs (drop (length xs) before) (length xs) refl

  -- what stands behind it stays
  pub rest_untouched : drop (length xs) (over xs before) ≡ drop (length xs) before
  rest_untouched = drop_at xs (drop (length xs) before) (length xs) refl

  pub untouched : (k : ℕ) (d : A) → get_or (over xs before) (length xs + k) d ≡ get_or before (length xs + k) d
  untouched k d =
      sym (get_or-drop (length xs) (over xs before) k d) ∙ ap (λ (l : List A). get_or l k d) rest_untouched ∙ get_or-drop (length xs) before k d

  -- a list with room for it keeps its length
  pub same_size : length xs ≤ length before → length (over xs before) ≡ length before
  same_size h = simp (length-append, length-drop) (omega arith)

-- as many records as commands are open
pub as_many : (p : Port) → length (listing p) ≡ length p.held
as_many p = length-map p.held record_of_lem
