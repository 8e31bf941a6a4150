-- The digits of a number, hexadecimal and decimal.
-- Assumes nothing.
use mathlib.Core.Path.{◌≡◌, refl, sym, ap, ◌∙◌}
use mathlib.Core.Bool.{Bool, true, false}
use mathlib.Core.List.{List, [], ◌∷◌, ◌++◌, append_assoc, append-nil}
use Prim.Native.Nat.{ℕ, zero, suc, ◌+◌, ◌-◌, ◌*◌, ◌/◌, ◌%◌, ◌^◌, ◌≤◌, ◌<◌}
use native.Mathlib.Nat.{pow-suc}
use native.Mathlib.Omega.{arith}
use borrow.Author.Tests.{lt-ltb, le-ltb, ltb-true, ltb-false}
use lib.Bits.{bit_and, and_mask}
use lib.Dec.{ltb}
use lib.ListN.{length, take, drop, set, length-append, length-set}
use lib.Pow.{pow-add}
use Rattle.srp.specs.Outside.{hex_digit_lem, hex, digits, decimal}
use Rattle.text.specs.Appending.{Appends}
use Rattle.text.proofs.Texts.{take_stored, drop_stored, later}

-- ── hexadecimal

sixteens : (k : ℕ) → 2 ^ (4 * k) ≡ 16 ^ k
sixteens zero = refl
sixteens (suc k) =
    let e : 4 * suc k ≡ 4 * k + 4 = omega arith in
    rw (e, pow-add 2 (4 * k) 4, sixteens k) (sym (pow-suc 16 k))

-- a shift and a mask give the digit at place k
pub digit_at : (n k : ℕ) → bit_and (n / 2 ^ (4 * k)) 15 ≡ n / 16 ^ k % 16
digit_at n k = and_mask (n / 2 ^ (4 * k)) 4 ∙ ap (λ (m : ℕ). n / m % 16) (sixteens k)

pub length_hex : (k n : ℕ) → length (hex k n) ≡ k
length_hex zero n = refl
length_hex (suc k) n = ap suc (length_hex k n)

-- i digits are written, which with those that are left are the whole
pub record Spelling (before : List ℕ) (at n count : ℕ) (text : List ℕ) (i : ℕ) : Type 0 where
  pub upto : i ≤ count
  pub kept : length text ≡ length before
  pub room : at + count ≤ length text
  pub same : take (at + i) text ++ hex (count - i) n ≡ take at before ++ hex count n
  pub behind : drop (at + i) text ≡ drop (at + i) before

module _ {before text : List ℕ} {at n count i : ℕ} (w : Spelling before at n count text i) where
  pub on : i < count → {v : ℕ} → v ≡ hex_digit_lem (n / 16 ^ (count - 1 - i) % 16) → Spelling before at n count (set text (at + i) v) (i + 1)
  on more {v} e =
      let next : at + (i + 1) ≡ at + i + 1 = omega arith in
      let place : count - 1 - i ≡ count - (i + 1) = omega arith in
      let left : suc (count - (i + 1)) ≡ count - i = omega arith in
      record {
        upto = omega arith;
        kept = rw (length-set) w.kept;
        room = rw (length-set) w.room;
        same =
            rw (next, take_stored text (at + i) v (omega (arith, w.room)))
            (append_assoc (take (at + i) text) (v ∷ []) (hex (count - (i + 1)) n)
            ∙ ap (λ (d : ℕ). take (at + i) text ++ (d ∷ hex (count - (i + 1)) n)) (e ∙ ap (λ (k : ℕ). hex_digit_lem (n / 16 ^ k % 16)) place)
            ∙ ap (λ (k : ℕ). take (at + i) text ++ hex k n) left
            ∙ w.same);
        behind = rw next (drop_stored text (at + i) v ∙ later before text (at + i) (at + i + 1) (omega arith) w.behind);
      }

  pub end_of : count ≤ i → Appends before at (hex count n) text (at + count)
  end_of h =
      let all : i ≡ count = omega (arith, w.upto) in
      let none : count - i ≡ 0 = omega arith in
      record {
        long = omega (arith, length_hex count n);
        room = w.room;
        text = sym (append-nil (take (at + count) text)) ∙ rw (none, all) at w.same;
        rest = rw all at w.behind;
      }

-- ── decimal

-- one digit, and more
pub digits_last : (k n : ℕ) → n < 10 → digits (suc k) n ≡ (48 + n) ∷ []
digits_last k n h = ap (λ (b : Bool). elim b as (λ _. List ℕ) [ true ↦ (48 + n) ∷ [] | false ↦ digits k (n / 10) ++ ((48 + n % 10) ∷ []) ]) (lt-ltb n 10 h)

pub digits_more : (k n : ℕ) → 10 ≤ n → digits (suc k) n ≡ digits k (n / 10) ++ ((48 + n % 10) ∷ [])
digits_more k n h = ap (λ (b : Bool). elim b as (λ _. List ℕ) [ true ↦ (48 + n) ∷ [] | false ↦ digits k (n / 10) ++ ((48 + n % 10) ∷ []) ]) (le-ltb n 10 h)

-- one digit more than a tenth of the number has, at most
one_more : (k n j : ℕ) → length (digits k (n / 10)) ≤ j → length (digits (suc k) n) ≤ suc j
one_more k n j h = go (ltb n 10) refl
  where
    go : (b : Bool) → ltb n 10 ≡ b → length (digits (suc k) n) ≤ suc j
    go true e = rw (digits_last k n (ltb-true n 10 e)) (omega arith)
    go false e = rw (digits_more k n (ltb-false n 10 e), length-append) (omega (arith, h))

digits_few : (k n : ℕ) → length (digits k n) ≤ k
digits_few zero n = omega arith
digits_few (suc k) n = one_more k n k (digits_few k (n / 10))

pub decimal_few : (n : ℕ) → length (decimal n) ≤ 20
decimal_few n = digits_few 20 n

-- a number below 1,000 has at most three
pub decimal_short : (n : ℕ) → n < 1000 → length (decimal n) ≤ 3
decimal_short n h =
    let one : length (digits 18 (n / 10 / 10)) ≤ 1 = rw (digits_last 17 (n / 10 / 10) (omega arith)) (omega arith) in
    one_more 19 n 2 (one_more 18 (n / 10) 1 one)

-- a number below 10^k needs no more than k
digits_enough : (k n : ℕ) → n < 10 ^ suc k → digits (suc (suc k)) n ≡ digits (suc k) n
digits_enough zero n h =
    let l : n < 10 = omega (arith, h) in
    digits_last 1 n l ∙ sym (digits_last 0 n l)
digits_enough (suc k) n h = go (ltb n 10) refl (digits_enough k (n / 10))
  where
    tenth : n / 10 < 10 ^ suc k
    tenth = omega (arith, rw (pow-suc 10 (suc k)) at h)

    go : (b : Bool) → ltb n 10 ≡ b → (n / 10 < 10 ^ suc k → digits (suc (suc k)) (n / 10) ≡ digits (suc k) (n / 10)) → digits (suc (suc (suc k))) n ≡ digits (suc (suc k)) n
    go true e same = let l = ltb-true n 10 e in digits_last (suc (suc k)) n l ∙ sym (digits_last (suc k) n l)
    go false e same =
        let l = ltb-false n 10 e in
        digits_more (suc (suc k)) n l ∙ ap (λ (t : List ℕ). t ++ ((48 + n % 10) ∷ [])) (same tenth) ∙ sym (digits_more (suc k) n l)

-- the digits of a tenth of it, and its last
pub more_digits : (n : ℕ) → 10 ≤ n → n < 2 ^ 64 → decimal (n / 10) ++ ((48 + n % 10) ∷ []) ≡ decimal n
more_digits n l h = ap (λ (t : List ℕ). t ++ ((48 + n % 10) ∷ [])) (digits_enough 18 (n / 10) (omega arith)) ∙ sym (digits_more 19 n l)

pub length_one : (n : ℕ) → n < 10 → length (decimal n) ≡ 1
length_one n h = ap (length {A = ℕ}) (digits_last 19 n h)

pub length_more : (n : ℕ) → 10 ≤ n → n < 2 ^ 64 → length (decimal n) ≡ length (decimal (n / 10)) + 1
length_more n l h = ap (length {A = ℕ}) (sym (more_digits n l h)) ∙ length-append (decimal (n / 10)) ((48 + n % 10) ∷ [])
