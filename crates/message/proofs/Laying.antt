-- A message laid into a buffer field by field, and bytes put behind a message: the buffer then holds the message, and past it what it held.
-- Assumes nothing.
use mathlib.Core.Path.{◌≡◌, refl, sym, ap, ◌∙◌}
use mathlib.Core.Bool.{true, ◌&&◌}
use mathlib.Core.List.{List, [], ◌∷◌, ◌++◌, append_assoc}
use Prim.Native.Nat.{ℕ, ◌+◌, ◌/◌, ◌%◌, ◌^◌, ◌≤◌, ◌<◌}
use native.Mathlib.Omega.{arith}
use lib.Dec.{ltb, leb}
use lib.ListN.{length, take, drop, get_or, length-append, length-replicate, get_or-append}
use lib.Seq.{take-append-le, drop-append-le, set-append_left, take-length, take_at, drop_at, drop-drop}
use borrow.Author.Tests.{ltb-true, leb-true}
use borrow.Rule.Slice.PartMut.{put_mid}
use Rattle.wire.proofs.Stores.{part_copied}
use Rattle.srp.specs.Bytes.{Field, bytes, bits, bytes_of, put, puts, replaced, zeros, Layout, kind, write, inside, apart_from, sound}
use Rattle.srp.specs.Limits.{buffer_size, longest_sense}
use Rattle.srp.specs.Messages.{rsp}
use Rattle.srp.specs.Writing.{placed}
use Rattle.srp.proofs.FieldLaws.{both, length_put}

-- ── what is written inside a list leaves what follows it

put_append : (f : Field) (v : ℕ) (s t : List ℕ) → inside (length s) f ≡ true → put f v (s ++ t) ≡ put f v s ++ t
put_append (bytes at wide) v s t ok =
    let h : at + wide ≤ length s = leb-true (at + wide) (length s) ok in
    rw (take-append-le at s t (omega arith), drop-append-le (at + wide) s t h)
    (simp append_assoc)
put_append (bits at low count) v s t ok =
    let h : at < length s = ltb-true at (length s) (both (ltb at (length s)) (leb (low + count) 8) ok).0 in
    rw (get_or-append s t 0 at h) (set-append_left s t at (replaced low count v (get_or s at 0)) h)

-- fields inside n bytes, written there: the length stays, and so does what follows
puts_append : (n : ℕ) (fs : List Field) (vs s t : List ℕ) → length s ≡ n → sound n fs ≡ true
    → (length (puts fs vs s) ≡ n) × (puts fs vs (s ++ t) ≡ puts fs vs s ++ t)
puts_append n [] vs s t l ok = (l, refl)
puts_append n (f ∷ fs) [] s t l ok = (l, refl)
puts_append n (f ∷ fs) (v ∷ vs) s t l ok =
    let a = both (inside n f) (apart_from f fs && sound n fs) ok in
    let ih = puts_append n fs vs s t l (both (apart_from f fs) (sound n fs) a.1).1 in
    let i : inside (length (puts fs vs s)) f ≡ true = rw ih.0 a.0 in
    (length_put f v (puts fs vs s) i ∙ ih.0, ap (put f v) ih.1 ∙ put_append f v (puts fs vs s) t i)

-- ── a message

-- a field, or several, is written after what made s
pub field : (f : Field) (v : ℕ) {s x y : List ℕ} → y ≡ put f v x → x ≡ s → y ≡ put f v s
field f v p q = p ∙ ap (put f v) q

pub fields : (fs : List Field) (vs : List ℕ) {s x y : List ℕ} → y ≡ puts fs vs x → x ≡ s → y ≡ puts fs vs s
fields fs vs p q = p ∙ ap (puts fs vs) q

module _ (l : Layout) (vs : List ℕ) (ok : sound l.size (kind ∷ l.fields) ≡ true) where
  -- a message is as long as its layout says
  pub long : length (write l vs) ≡ l.size
  long = (puts_append l.size (kind ∷ l.fields) (l.code ∷ vs) (zeros l.size) [] (length-replicate l.size 0) ok).0

  -- its bytes cleared and its fields written are the message
  pub laid : (b y : List ℕ) → y ≡ puts (kind ∷ l.fields) (l.code ∷ vs) (zeros l.size ++ drop l.size b) → y ≡ placed (write l vs ∷ []) b
  laid b y e =
      e
      ∙ (puts_append l.size (kind ∷ l.fields) (l.code ∷ vs) (zeros l.size) (drop l.size b) (length-replicate l.size 0) ok).1
      ∙ ap (λ (n : ℕ). write l vs ++ drop n b) (sym long)

-- ── bytes behind a message

-- a lent buffer has room for the longest response, an SRP_RSP with the most sense
pub room_for_sense : {n room : ℕ} → n ≤ longest_sense → buffer_size ≤ room → rsp.size + n ≤ room
room_for_sense h g = omega arith

-- a byte as a number of four bytes
low_byte : (v : ℕ) → v < 256 → bytes_of 4 v ≡ 0 ∷ 0 ∷ 0 ∷ v ∷ []
low_byte v h =
    let p : v / 256 ^ 3 % 256 ≡ 0 = omega arith in
    let q : v / 256 ^ 2 % 256 ≡ 0 = omega arith in
    let r : v / 256 ^ 1 % 256 ≡ 0 = omega arith in
    let s : v / 256 ^ 0 % 256 ≡ v = omega arith in
    cc

module _ (a b x : List ℕ) (n : ℕ) (l : length a ≡ n) (first : x ≡ placed (a ∷ []) b) where
  -- bytes written behind a message join it
  behind : (w : List ℕ) → take n x ++ (w ++ drop (n + length w) x) ≡ placed ((a ++ w) ∷ []) b
  behind w =
      let t : take n x ≡ a = ap (take n) first ∙ take_at a (drop (length a) b) n l in
      let d : drop n x ≡ drop (length a) b = ap (drop n) first ∙ drop_at a (drop (length a) b) n l in
      rw (t, ← (drop-drop (length w) n x), d, drop-drop (length w) (length a) b, length-append a w)
      (sym (append_assoc a w (drop (length a + length w) b)))

  -- a byte, as a number of four
  pub byte_behind : (v : ℕ) → v < 256 → put (bytes n 4) v x ≡ placed ((a ++ (0 ∷ 0 ∷ 0 ∷ v ∷ [])) ∷ []) b
  byte_behind v h = ap (λ (w : List ℕ). take n x ++ (w ++ drop (n + 4) x)) (low_byte v h) ∙ behind (0 ∷ 0 ∷ 0 ∷ v ∷ [])

  -- bytes copied into the part of the buffer that is as long as they are
  pub copied_behind : (w : List ℕ) (k : ℕ) → k ≡ length w → (y : List ℕ) → y ≡ w → put_mid n k x y ≡ placed ((a ++ w) ∷ []) b
  copied_behind w k e y q = part_copied x n w k e y q ∙ rw (append_assoc, take-length w) (behind w)
