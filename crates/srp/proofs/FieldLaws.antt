-- Fields of a list of bytes: what is written is read, and all else stays.
-- Assumes nothing.
use mathlib.Core.Path.{◌≡◌, refl, sym, ap, ◌∙◌}
use mathlib.Core.Bool.{Bool, true, false, not, ◌&&◌, ◌||◌, or_comm, false≢true}
use mathlib.Core.Logic.{◌⊎◌, inl, inr, ⊎_elim}
use mathlib.Core.List.{List, [], ◌∷◌, ◌++◌, append_assoc}
use Prim.Native.Nat.{ℕ, zero, suc, ◌+◌, ◌-◌, ◌/◌, ◌%◌, ◌^◌, ◌≤◌, ◌<◌}
use native.Mathlib.Nat.{zero-add, zero-div, zero-mod, mod-lt}
use native.Mathlib.Numerals.{add-one}
use native.Mathlib.Omega.{arith}
use lib.Dec.{ltb, leb, eqb}
use lib.ListN.{length, take, drop, get_or, set, length-append, length-drop, take-append-drop}
use lib.Seq.{length-take-le, take-append-le, drop-append-le, take_at, drop_at, drop-drop, drop-nil, take-nil, set_split, get_or-set_same, get_or-set_other}
use lib.Pow.{pow_pos}
use borrow.Author.Tests.{ltb-true, leb-true, eqb-true, eqb-false, eq-eqb, ne_eqb}
use Rattle.srp.specs.Bytes.{number, bytes_of, Field, bytes, bits, get, part, put, replaced, zeros, bound, inside, apart}
use Rattle.srp.proofs.ListLaws.{all_drop}
use Rattle.srp.proofs.Numbers.{length_bytes, number_below, number_read, bits_read, bits_apart}
use Rattle.srp.specs.Bytes.{Bytes}

-- a test of two, and of one of two
pub both : (a b : Bool) → (a && b) ≡ true → (a ≡ true) × (b ≡ true)
both true b e = (refl, e)
both false b e = absurd (false≢true e)

one_of : {A B : Type 0} (p q : Bool) → (p ≡ true → A) → (q ≡ true → B) → (p || q) ≡ true → A ⊎ B
one_of true q f g e = inl (f refl)
one_of false q f g e = inr (g e)

-- ── a list written 0 from its start

-- one more is 0
pub zeros_more : (i : ℕ) (s : List ℕ) → i < length s → set (zeros i ++ drop i s) i 0 ≡ zeros (suc i) ++ drop (suc i) s
zeros_more zero [] h = absurd (omega arith)
zeros_more zero (x ∷ s) h = refl
zeros_more (suc i) [] h = absurd (omega arith)
zeros_more (suc i) (x ∷ s) h = ap (λ (l : List ℕ). 0 ∷ l) (zeros_more i s (omega arith))

-- ── some bytes of a list, written over

module _ {A : Type 0} where
  abbrev over : ℕ → List A → List A → List A
  over at w s = take at s ++ (w ++ drop (at + length w) s)

  -- a region before the seam
  pub front : (s t : List A) (at n : ℕ) → at + n ≤ length s → take n (drop at (s ++ t)) ≡ take n (drop at s)
  front s t at n h = rw (drop-append-le at s t (omega arith), take-append-le n (drop at s) t (rw length-drop (omega arith)))

  module _ (at : ℕ) (w s : List A) (room : at + length w ≤ length s) where
    head_long : length (take at s) ≡ at
    head_long = length-take-le at s (omega arith)

    -- the length stays
    over_long : length (over at w s) ≡ length s
    over_long = simp (length-append, length-drop, head_long) (omega arith)

    -- what is written is there
    over_read : take (length w) (drop at (over at w s)) ≡ w
    over_read = rw (drop_at (take at s) (w ++ drop (at + length w) s) at head_long, take_at w (drop (at + length w) s) (length w) refl)

    -- what is behind stays
    over_drop : (n : ℕ) → at + length w ≤ n → drop n (over at w s) ≡ drop n s
    over_drop n h =
        let e : at + length w + (n - (at + length w)) ≡ n = omega arith in
        let long : length (take at s ++ w) ≡ at + length w = rw (length-append, head_long) in
        rw e at
        (sym (drop-drop (n - (at + length w)) (at + length w) (over at w s))
        ∙ ap (drop (n - (at + length w))) (rw (← append_assoc) (drop_at (take at s ++ w) (drop (at + length w) s) (at + length w) long))
        ∙ drop-drop (n - (at + length w)) (at + length w) s)

    -- a region before or behind what is written is as it was
    over_apart : (i k : ℕ) → (at + length w ≤ i) ⊎ (i + k ≤ at) → take k (drop i (over at w s)) ≡ take k (drop i s)
    over_apart i k = ⊎_elim
        (λ h. ap (take k) (over_drop i h))
        (λ h.
        let t = head_long in
        front (take at s) (w ++ drop (at + length w) s) i k (omega arith)
        ∙ sym (front (take at s) (drop at s) i k (omega arith))
        ∙ ap (λ (x : List A). take k (drop i x)) (take-append-drop at s))

-- ── a field's bytes

-- a field's first byte, and how many it has
abbrev pub start : Field → ℕ
start (bytes at wide) = at
start (bits at low count) = at

abbrev pub size : Field → ℕ
size (bytes at wide) = wide
size (bits at low count) = 1

-- one behind a field's last byte
abbrev pub ends : Field → ℕ
ends f = start f + size f

-- what a field takes of its bytes' number
abbrev taken : Field → ℕ → ℕ
taken (bytes at wide) x = x
taken (bits at low count) x = x / 2 ^ low % 2 ^ count

-- a byte is the number of one byte
byte_at : (s : List ℕ) (at : ℕ) → get_or s at 0 ≡ number 0 (take 1 (drop at s))
byte_at [] zero = refl
byte_at [] (suc at) = refl
byte_at (x ∷ s) zero = omega arith
byte_at (x ∷ s) (suc at) = byte_at s at

-- a field is read from its bytes alone
get_is : (f : Field) (s : List ℕ) → get f s ≡ taken f (number 0 (take (size f) (drop (start f) s)))
get_is (bytes at wide) s = refl
get_is (bits at low count) s = ap (λ (x : ℕ). x / 2 ^ low % 2 ^ count) (byte_at s at)

get_same : (f : Field) (s t : List ℕ) → take (size f) (drop (start f) s) ≡ take (size f) (drop (start f) t) → get f s ≡ get f t
get_same f s t e = get_is f s ∙ ap (λ (x : List ℕ). taken f (number 0 x)) e ∙ sym (get_is f t)

-- of bytes every field is below its bound
pub get_below : (f : Field) (s : List ℕ) → Bytes s → get f s < bound f
get_below (bytes at wide) s b = omega (arith, number_below wide 0 (drop at s) (all_drop (λ b. b < 256) at s b))
get_below (bits at low count) s b = mod-lt (get_or s at 0 / 2 ^ low) (pow_pos count)

-- a field inside n bytes ends there
fits : (n : ℕ) (f : Field) → inside n f ≡ true → ends f ≤ n
fits n (bytes at wide) e = omega (arith, leb-true)
fits n (bits at low count) e = omega (arith, ltb-true at n (both (ltb at n) (leb (low + count) 8) e).0)

-- what a field's bytes become
abbrev piece : Field → ℕ → List ℕ → List ℕ
piece (bytes at wide) v s = bytes_of wide v
piece (bits at low count) v s = replaced low count v (get_or s at 0) ∷ []

piece_long : (f : Field) (v : ℕ) (s : List ℕ) → length (piece f v s) ≡ size f
piece_long (bytes at wide) v s = length_bytes wide v
piece_long (bits at low count) v s = refl

-- a field is written over its bytes
put_is : (f : Field) (v : ℕ) (s : List ℕ) → ends f ≤ length s → put f v s ≡ over (start f) (piece f v s) s
put_is (bytes at wide) v s h = rw (length_bytes wide v)
put_is (bits at low count) v s h = rw add-one (set_split s at (replaced low count v (get_or s at 0)) (omega arith))

module _ (f : Field) (v : ℕ) (s : List ℕ) (ok : inside (length s) f ≡ true) where
  room : start f + length (piece f v s) ≤ length s
  room = rw (piece_long f v s) (fits (length s) f ok)

  is_over_lem : put f v s ≡ over (start f) (piece f v s) s
  is_over_lem = put_is f v s (fits (length s) f ok)

  -- a write keeps the length
  pub length_put : length (put f v s) ≡ length s
  length_put = ap length is_over_lem ∙ over_long (start f) (piece f v s) s room

  -- a write leaves what is behind the field
  pub drop_put : (n : ℕ) → ends f ≤ n → drop n (put f v s) ≡ drop n s
  drop_put n h = ap (drop n) is_over_lem ∙ over_drop (start f) (piece f v s) s room n (rw (piece_long f v s) h)

  -- the field's bytes are what was written
  put_read : take (size f) (drop (start f) (put f v s)) ≡ piece f v s
  put_read = rw (is_over_lem, ← (piece_long f v s)) (over_read (start f) (piece f v s) s room)

  -- a write leaves other bytes
  bytes_clear : (at wide : ℕ) → (ends f ≤ at) ⊎ (at + wide ≤ start f) → take wide (drop at (put f v s)) ≡ take wide (drop at s)
  bytes_clear at wide h = rw is_over_lem (over_apart (start f) (piece f v s) s room at wide (rw (piece_long f v s) h))

  -- and their fields
  get_clear : (g : Field) → (ends f ≤ start g) ⊎ (ends g ≤ start f) → get g (put f v s) ≡ get g s
  get_clear g h = get_same g (put f v s) s (bytes_clear (start g) (size g) h)

-- a value below a field's bound is read back
pub get_put : (f : Field) (v : ℕ) (s : List ℕ) → inside (length s) f ≡ true → v < bound f → get f (put f v s) ≡ v
get_put f v s ok h = get_is f (put f v s) ∙ ap (λ (x : List ℕ). taken f (number 0 x)) (put_read f v s ok) ∙ value f h
  where
    value : (f : Field) → v < bound f → taken f (number 0 (piece f v s)) ≡ v
    value (bytes at wide) h = number_read wide v h
    value (bits at low count) h = rw zero-add (bits_read low count v (get_or s at 0) h)

-- the bytes of a field of whole bytes, as they were written
pub part_put : (at wide v : ℕ) (s : List ℕ) → inside (length s) (bytes at wide) ≡ true → part (bytes at wide) (put (bytes at wide) v s) ≡ bytes_of wide v
part_put at wide v s ok = put_read (bytes at wide) v s ok

-- the bytes of a field apart from the one that is written are as they were
pub part_put_apart : (f g : Field) (v : ℕ) (s : List ℕ) → inside (length s) f ≡ true → apart f g ≡ true → part g (put f v s) ≡ part g s
part_put_apart (bytes a m) (bytes b n) v s ok e =
    bytes_clear (bytes a m) v s ok b n (one_of (leb (a + m) b) (leb (b + n) a) (leb-true (a + m) b) (leb-true (b + n) a) e)
part_put_apart (bits a l c) (bytes b n) v s ok e =
    bytes_clear (bits a l c) v s ok b n (one_of (ltb a b) (leb (b + n) a) (λ q. omega (arith, ltb-true)) (leb-true (b + n) a) e)
part_put_apart f (bits b k d) v s ok e = refl

-- fields apart from the one that is written are as they were
pub get_put_apart : (f g : Field) (v : ℕ) (s : List ℕ) → inside (length s) f ≡ true → v < bound f → apart f g ≡ true → get g (put f v s) ≡ get g s
get_put_apart (bytes a m) (bytes b n) v s ok h e =
    get_clear (bytes a m) v s ok (bytes b n) (one_of (leb (a + m) b) (leb (b + n) a) (leb-true (a + m) b) (leb-true (b + n) a) e)
get_put_apart (bytes a m) (bits b k d) v s ok h e =
    get_clear (bytes a m) v s ok (bits b k d) (one_of (leb (a + m) b) (ltb b a) (leb-true (a + m) b) (λ q. omega (arith, ltb-true)) e)
get_put_apart (bits a l c) (bytes b n) v s ok h e =
    get_clear (bits a l c) v s ok (bytes b n) (one_of (ltb a b) (leb (b + n) a) (λ q. omega (arith, ltb-true)) (leb-true (b + n) a) e)
get_put_apart (bits a l c) (bits b k d) v s ok h e = go (eqb a b) refl e
  where
    new : ℕ
    new = replaced l c v (get_or s a 0)

    go : (t : Bool) → eqb a b ≡ t → (not t || (leb (l + c) k || leb (k + d) l)) ≡ true → get (bits b k d) (set s a new) ≡ get (bits b k d) s
    go false q e = rw (get_or-set_other s a b new 0 (λ p. eqb-false a b q (sym p)))
    go true q e =
        let p : a < length s = omega (arith, fits (length s) (bits a l c) ok) in
        rw (← (eqb-true a b q), get_or-set_same s a new 0 p)
        (bits_apart l c v (get_or s a 0) h k d (one_of (leb (l + c) k) (leb (k + d) l) (leb-true (l + c) k) (leb-true (k + d) l) e))

-- being apart has no direction
pub apart_sym : (f g : Field) → apart f g ≡ apart g f
apart_sym (bytes a m) (bytes b n) = or_comm (leb (a + m) b) (leb (b + n) a)
apart_sym (bytes a m) (bits b k d) = or_comm (leb (a + m) b) (ltb b a)
apart_sym (bits a l c) (bytes b n) = or_comm (ltb a b) (leb (b + n) a)
apart_sym (bits a l c) (bits b k d) = rw (or_comm (leb (l + c) k) (leb (k + d) l), go (eqb a b) refl)
  where
    go : (t : Bool) → eqb a b ≡ t → eqb a b ≡ eqb b a
    go true q = q ∙ sym (eq-eqb b a (sym (eqb-true a b q)))
    go false q = q ∙ sym (ne_eqb b a (λ p. eqb-false a b q (sym p)))

-- what follows a list is not read by a field inside it
pub get_append : (f : Field) (s t : List ℕ) → inside (length s) f ≡ true → get f (s ++ t) ≡ get f s
get_append f s t ok = get_same f (s ++ t) s (front s t (start f) (size f) (fits (length s) f ok))

-- of zeros any bytes are 0
blank : (n at wide : ℕ) → number 0 (take wide (drop at (zeros n))) ≡ 0
blank zero at wide = rw (drop-nil {A = ℕ} at, take-nil {A = ℕ} wide)
blank (suc n) zero zero = refl
blank (suc n) zero (suc wide) = blank n zero wide
blank (suc n) (suc at) wide = blank n at wide

-- of zeros every field is 0
pub zeros_read : (g : Field) (n : ℕ) → get g (zeros n) ≡ 0
zeros_read g n = get_is g (zeros n) ∙ ap (taken g) (blank n (start g) (size g)) ∙ none g
  where
    none : (g : Field) → taken g 0 ≡ 0
    none (bytes at wide) = refl
    none (bits at low count) = rw (zero-div (2 ^ low), zero-mod (2 ^ count))
