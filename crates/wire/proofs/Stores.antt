-- Loops that store into a list of numbers, whatever their width: zeros from its start on, or another list from a place on.
-- Assumes nothing.
use mathlib.Core.Path.{◌≡◌, refl, sym, ◌∙◌}
use mathlib.Core.List.{List, ◌++◌, append-nil, append_assoc}
use Prim.Native.Nat.{ℕ, ◌+◌, ◌≤◌, ◌<◌}
use native.Mathlib.Omega.{arith}
use native.Mathlib.Numerals.{add-one}
use lib.ListN.{length, take, drop, get_or, set, length-set, drop_of_length-le}
use lib.Seq.{take-length, paste, paste-zero, paste-suc, drop-drop}
use borrow.Rule.Slice.PartMut.{put_mid}
use Rattle.srp.specs.Bytes.{zeros}
use Rattle.srp.proofs.FieldLaws.{zeros_more}

-- ── zeros

-- of the first n numbers of s, i are 0 in t, and the others are as they were
pub record Clearing (s : List ℕ) (n : ℕ) (t : List ℕ) (i : ℕ) : Type 0 where
  pub upto : i ≤ n
  pub fits : n ≤ length s
  pub long : length t ≡ length s
  pub stored : t ≡ zeros i ++ drop i s

pub clear_start : (s : List ℕ) (n : ℕ) → n ≤ length s → Clearing s n s 0
clear_start s n h = record { upto = omega arith; fits = h; long = refl; stored = refl }

module _ {s : List ℕ} {n : ℕ} {t : List ℕ} {i : ℕ} (w : Clearing s n t i) where
  pub clear_turn : i < n → Clearing s n (set t i 0) (i + 1)
  clear_turn h =
      record {
        upto = omega arith;
        fits = w.fits;
        long = simp length-set w.long;
        stored = rw (w.stored, add-one i) (zeros_more i s (omega (arith, w.fits)));
      }

  pub clear_end : n ≤ i → t ≡ zeros n ++ drop n s
  clear_end h = let e : i ≡ n = omega (arith, w.upto) in rw (← e) w.stored

  -- where n is the whole length
  pub all_clear_lem : n ≤ i → length s ≡ n → t ≡ zeros n
  all_clear_lem h e = let d : drop n s ≡ _ = drop_of_length-le s {i = n} (omega arith) in clear_end h ∙ rw (d, append-nil)

-- ── another list

-- of the list `from`, j numbers stand in t from place `at` on, and all else is as it was in s
pub record Copying (s : List ℕ) (at : ℕ) (from t : List ℕ) (j : ℕ) : Type 0 where
  pub upto : j ≤ length from
  pub fits : at + length from ≤ length s
  pub long : length t ≡ length s
  pub stored : t ≡ paste s at from j

pub copy_start : (s : List ℕ) (at : ℕ) (from : List ℕ) → at + length from ≤ length s → Copying s at from s 0
copy_start s at from h = record { upto = omega arith; fits = h; long = refl; stored = paste-zero s at from }

module _ {s : List ℕ} {at : ℕ} {from t : List ℕ} {j : ℕ} (w : Copying s at from t j) where
  pub copy_turn : j < length from → Copying s at from (set t (at + j) (get_or from j 0)) (j + 1)
  copy_turn h =
      record {
        upto = omega arith;
        fits = w.fits;
        long = simp length-set w.long;
        stored = rw (w.stored, add-one j) (paste-suc s at from j 0 (omega (arith, w.fits)) h);
      }

  pub copy_end : length from ≤ j → t ≡ paste s at from (length from)
  copy_end h = let e : j ≡ length from = omega (arith, w.upto) in rw (← e) w.stored

-- a list copied into the part of another that is as long
pub part_copied : (s : List ℕ) (at : ℕ) (from : List ℕ) (k : ℕ) → k ≡ length from → (y : List ℕ) → y ≡ from → put_mid at k s y ≡ paste s at from (length from)
part_copied s at from k e y q =
    let all : y ≡ take (length from) from = q ∙ sym (take-length from) in
    rw (all, e, drop-drop (length from) at s, append_assoc) refl
