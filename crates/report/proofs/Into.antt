-- A list whose first elements are another's, as the lent list is in each turn of the loop; once the loop ends this is the listing.
-- Assumes nothing.
use mathlib.Core.Path.{◌≡◌, sym, ◌∙◌, ap}
use mathlib.Core.List.{List, ◌++◌}
use Prim.Native.Nat.{ℕ, suc, ◌+◌, ◌≤◌, ◌<◌}
use native.Mathlib.Omega.{arith}
use native.Mathlib.Numerals.{add-one}
use lib.ListN.{length, get_or, take, drop, set}
use lib.Seq.{length-take-le, length_front, take-suc, drop-cons, append_snoc, set_at}
use Rattle.srp.specs.Credit.{Port}
use Rattle.srp.specs.declared.Record.{Record}
use Rattle.report.specs.declared.Listing.{Listing}
use Rattle.report.specs.Reports.{ListingFor, ListsInto}

module _ {A : Type 0} (new old : List A) where
  -- the first i elements are the new ones
  abbrev pub into : ℕ → List A
  into i = take i new ++ drop i old

  pub into_long : (i : ℕ) → i ≤ length new → i ≤ length old → length (into i) ≡ length old
  into_long i h k = length_front old (take i new) i (length-take-le i new h ∙ sym (length-take-le i old k))

  -- one more of the new ones is stored
  pub into_more : (i : ℕ) (d : A) → i < length new → i < length old → set (into i) i (get_or new i d) ≡ into (i + 1)
  into_more i d h k =
      ap (λ (x : List A). set (take i new ++ x) i (get_or new i d)) (drop-cons old i d k)
      ∙ set_at (take i new) (get_or old i d) (drop (suc i) old) (get_or new i d) i (length-take-le i new (omega arith))
      ∙ sym (append_snoc (take i new) (get_or new i d) (drop (suc i) old))
      ∙ ap (λ (x : List A). x ++ drop (suc i) old) (sym (take-suc new i d h))
      ∙ ap into (sym (add-one i))

-- the lent list with all that is to be written
pub lists_into : (p : Port) (before : List Record) (f : Listing) → ListingFor p (length before) f
    → ListsInto p before (into f.records before f.count) f.reply
lists_into p before f K = record { reply = K.reply; records = λ i. K.written i ++ drop (K.count i) before }
