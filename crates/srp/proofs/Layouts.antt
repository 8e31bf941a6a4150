-- Layouts: every message is read back as it was written, and what its layout does not name is 0.
-- Assumes nothing.
use mathlib.Core.Path.{◌≡◌, refl, ap, ◌∙◌}
use mathlib.Core.Bool.{Bool, true, ◌&&◌}
use mathlib.Core.List.{List, [], ◌∷◌, ◌++◌, head-eq_of_cons-eq, tail-eq_of_cons-eq}
use Prim.Native.Nat.{ℕ, ◌+◌, ◌*◌, ◌<◌}
use lib.Dec.{ltb}
use lib.ListN.{length, length-replicate}
use borrow.Author.Tests.{ltb-true}
use Rattle.srp.specs.Bytes.{Field, bytes, bits, get, part, put, gets, puts, zeros, Layout, write, bound, InRange, inside, apart, apart_from, sound}
use Rattle.srp.specs.Lists.{All}
use Rattle.srp.specs.Messages.{layouts}
use Rattle.srp.specs.ReadBack.{all_fields, Written}
use Rattle.srp.proofs.FieldLaws.{both, length_put, get_put, get_put_apart, part_put_apart, apart_sym, get_append, zeros_read}

-- fields apart from the one that is written are as they were
pub gets_apart : (f : Field) (fs : List Field) (v : ℕ) (s : List ℕ) → inside (length s) f ≡ true → v < bound f → apart_from f fs ≡ true → gets fs (put f v s) ≡ gets fs s
gets_apart f [] v s ok h e = refl
gets_apart f (g ∷ gs) v s ok h e =
    let a = both (apart f g) (apart_from f gs) e in
    rw (get_put_apart f g v s ok h a.0, gets_apart f gs v s ok h a.1)

-- what follows a list is not read by fields inside it
pub gets_append : (fs : List Field) (s t : List ℕ) → sound (length s) fs ≡ true → gets fs (s ++ t) ≡ gets fs s
gets_append [] s t ok = refl
gets_append (f ∷ fs) s t ok =
    let a = both (inside (length s) f) (apart_from f fs && sound (length s) fs) ok in
    rw (get_append f s t a.0, gets_append fs s t (both (apart_from f fs) (sound (length s) fs) a.1).1)

-- fields written by a sound description are read back, and the length stays
pub read_back : (n : ℕ) (fs : List Field) (vs s : List ℕ) → length s ≡ n → sound n fs ≡ true → InRange fs vs
    → (gets fs (puts fs vs s) ≡ vs) × (length (puts fs vs s) ≡ n)
read_back n [] [] s l ok r = (refl, l)
read_back n [] (v ∷ vs) s l ok r = absurd r
read_back n (f ∷ fs) [] s l ok r = absurd r
read_back n (f ∷ fs) (v ∷ vs) s l ok r =
    let a = both (inside n f) (apart_from f fs && sound n fs) ok in
    let b = both (apart_from f fs) (sound n fs) a.1 in
    let ih = read_back n fs vs s l b.1 r.1 in
    let t : List ℕ = puts fs vs s in
    let i : inside (length t) f ≡ true = rw ih.1 a.0 in
    (rw (get_put f v t i r.0, gets_apart f fs v t i r.0 b.0, ih.0), length_put f v t i ∙ ih.1)

-- a field apart from those that are written is as it was
pub reserved : (n : ℕ) (g : Field) (fs : List Field) (vs s : List ℕ) → length s ≡ n → sound n fs ≡ true → InRange fs vs → apart_from g fs ≡ true
    → get g (puts fs vs s) ≡ get g s
reserved n g [] vs s l ok r e = refl
reserved n g (f ∷ fs) [] s l ok r e = absurd r
reserved n g (f ∷ fs) (v ∷ vs) s l ok r e =
    let a = both (inside n f) (apart_from f fs && sound n fs) ok in
    let b = both (apart_from f fs) (sound n fs) a.1 in
    let c = both (apart g f) (apart_from g fs) e in
    let i : inside (length (puts fs vs s)) f ≡ true = rw (read_back n fs vs s l b.1 r.1).1 a.0 in
    get_put_apart f g v (puts fs vs s) i r.0 (apart_sym f g ∙ c.0) ∙ reserved n g fs vs s l b.1 r.1 c.1

-- and so are its bytes
pub part_reserved : (n : ℕ) (g : Field) (fs : List Field) (vs s : List ℕ) → length s ≡ n → sound n fs ≡ true → InRange fs vs → apart_from g fs ≡ true
    → part g (puts fs vs s) ≡ part g s
part_reserved n g [] vs s l ok r e = refl
part_reserved n g (f ∷ fs) [] s l ok r e = absurd r
part_reserved n g (f ∷ fs) (v ∷ vs) s l ok r e =
    let a = both (inside n f) (apart_from f fs && sound n fs) ok in
    let b = both (apart_from f fs) (sound n fs) a.1 in
    let c = both (apart g f) (apart_from g fs) e in
    let i : inside (length (puts fs vs s)) f ≡ true = rw (read_back n fs vs s l b.1 r.1).1 a.0 in
    part_put_apart f g v (puts fs vs s) i (apart_sym f g ∙ c.0) ∙ part_reserved n g fs vs s l b.1 r.1 c.1

-- ── layouts

-- how many bits fields name
abbrev pub bits_of : List Field → ℕ
bits_of [] = 0
bits_of (bytes at wide ∷ fs) = 8 * wide + bits_of fs
bits_of (bits at low count ∷ fs) = count + bits_of fs

-- a layout is sound, and its code is a byte
abbrev pub fine : Layout → Bool
fine l = sound l.size (all_fields l) && ltb l.code 256

-- a message written by a sound layout is read back
pub written : (l : Layout) → fine l ≡ true → (vs : List ℕ) → InRange l.fields vs → Written l vs
written l ok vs r =
    let a = both (sound l.size (all_fields l)) (ltb l.code 256) ok in
    let c : l.code < 256 = ltb-true l.code 256 a.1 in
    let n : length (zeros l.size) ≡ l.size = length-replicate l.size 0 in
    let b = read_back l.size (all_fields l) (l.code ∷ vs) (zeros l.size) n a.0 (c, r) in
    let m : (t : List ℕ) → gets (all_fields l) (write l vs ++ t) ≡ l.code ∷ vs =
    λ t. gets_append (all_fields l) (write l vs) t (ap (λ (k : ℕ). sound k (all_fields l)) b.1 ∙ a.0) ∙ b.0 in
    record {
      long = b.1;
      code = head-eq_of_cons-eq b.0;
      values = tail-eq_of_cons-eq b.0;
      code_before = λ t. head-eq_of_cons-eq (m t);
      values_before = λ t. tail-eq_of_cons-eq (m t);
      zero_elsewhere = λ g e. reserved l.size g (all_fields l) (l.code ∷ vs) (zeros l.size) n a.0 (c, r) e ∙ zeros_read g l.size;
    }

-- ── the ten messages

abbrev pub every : (Layout → Bool) → List Layout → Bool
every p [] = true
every p (l ∷ ls) = p l && every p ls

-- a test of each layout gives a fact of each
pub all : (p : Layout → Bool) (P : Layout → Type 0) → ((l : Layout) → p l ≡ true → P l) → (ls : List Layout) → every p ls ≡ true → All P ls
all p P f [] e = tt
all p P f (l ∷ ls) e = let a = both (p l) (every p ls) e in (f l a.0, all p P f ls a.1)

-- every layout is sound, and its code is a byte
pub layouts_sound : every fine layouts ≡ true
layouts_sound = refl

-- each of the ten messages is read back as it was written, and is 0 elsewhere
pub every_message : All (λ l. (vs : List ℕ) → InRange l.fields vs → Written l vs) layouts
every_message = all fine (λ l. (vs : List ℕ) → InRange l.fields vs → Written l vs) written layouts layouts_sound
