-- Lists written at a place of the store, each over what stood there: what the command of that place reads then, and that all else stays.
-- Assumes nothing.
use mathlib.Core.Path.{◌≡◌, refl, sym, ◌∙◌, ap}
use mathlib.Core.List.{List, ◌++◌}
use mathlib.Core.Logic.{◌⊎◌, inl, inr, ⊎_elim}
use Prim.Native.Nat.{ℕ, ◌+◌, ◌*◌, ◌≤◌, ◌<◌}
use native.Mathlib.Omega.{arith}
use lib.ListN.{length, take, drop, length-drop}
use lib.Seq.{paste, length-paste, drop-drop, take_all}
use Rattle.srp.specs.Lists.{over}
use Rattle.srp.specs.Descriptors.{standing_size_lem}
use Rattle.srp.specs.declared.Descriptor.{Descriptor}
use Rattle.srp.specs.declared.Direction.TheVariants.{Out, In}
use Rattle.srp.proofs.Segments.{standing_short}
use Rattle.words.specs.declared.Part.{Part}
use Rattle.words.specs.declared.Slot.{Slot}
use Rattle.words.specs.Sizes.{most_slots, list_size, place_size, store_size}
use Rattle.words.specs.Slots.{PartFits, TableFits, SlotFits, place_for_lem}
use Rattle.words.specs.View.{side_of, given_of, open_of}
use Rattle.words.proofs.Slots.{apart, from_written, either}
use Rattle.store.specs.Places.{open_in}

-- ── what a command reads of its directions' bytes

-- bytes that agree as far as a direction's list goes are the same to it
abbrev Alike : List ℕ → List ℕ → Type 0
Alike a b = (n : ℕ) → n ≤ list_size → take n a ≡ take n b

pub side_alike : (a b : List ℕ) (p : Part) → PartFits p → Alike a b → side_of a 0 p ≡ side_of b 0 p
side_alike a b p F e = rw (e (16 * p.segments) (omega (arith, F.few))) refl

pub given_alike : (a b : List ℕ) (d : Descriptor) → TableFits d → Alike a b → given_of a 0 d ≡ given_of b 0 d
given_alike a b d F e = rw (e (standing_size_lem d) (standing_short d F.few)) refl

pub open_alike : (a b a' b' : List ℕ) (c : Slot) → SlotFits c → Alike a a' → Alike b b' → open_in a b c ≡ open_in a' b' c
open_alike a b a' b' c F e f =
    rw
    (side_alike a a' c.out F.out e, side_alike b b' c.inn F.inn f, given_alike a a' c.awaits.out F.awaits.out e, given_alike b b' c.awaits.inn F.awaits.inn f)
    refl

-- so a command is what the bytes from its directions' places on say
pub open_as : (st : List ℕ) (c : Slot) (a b : List ℕ) → SlotFits c → Alike (drop (place_for_lem Out c) st) a → Alike (drop (place_for_lem In c) st) b → open_of st c ≡ open_in a b c
open_as st c a b F e f = open_alike (drop (place_for_lem Out c) st) (drop (place_for_lem In c) st) a b c F e f

-- as many bytes as the store has, from one on, are all from that on
pub to_end : (l : List ℕ) (at : ℕ) → length l ≡ store_size → take store_size (drop at l) ≡ drop at l
to_end l at e = take_all store_size (drop at l) (simp length-drop (omega arith))

-- ── both lists written at a place

module _ (st out inn : List ℕ) (long : length st ≡ store_size) (so : length out ≤ list_size) (si : length inn ≤ list_size) (k : ℕ) (small : k < most_slots) where
  -- the store with data-out's list, then with both
  abbrev with_out : List ℕ
  with_out = paste st (k * place_size) out (length out)

  abbrev pub with_both : List ℕ
  with_both = paste with_out (k * place_size + list_size) inn (length inn)

  -- the store is as long as before
  out_long : length with_out ≡ store_size
  out_long = length-paste st (k * place_size) out (length out) (omega arith) (omega arith) ∙ long

  pub both_long : length with_both ≡ store_size
  both_long = length-paste with_out (k * place_size + list_size) inn (length inn) (omega (arith, out_long)) (omega arith) ∙ out_long

  -- what is before or behind the place stays
  pub outside : (at n : ℕ) → (at + n ≤ place_size * k) ⊎ (place_size * k + place_size ≤ at) → take n (drop at with_both) ≡ take n (drop at st)
  outside at n h =
      apart with_out (k * place_size + list_size) inn (length inn) (omega (arith, out_long)) (omega arith) at n
      (⊎_elim (λ g. inl (omega arith)) (λ g. inr (omega arith)) h)
      ∙ apart st (k * place_size) out (length out) (omega arith) (omega arith) at n (⊎_elim (λ g. inl (omega arith)) (λ g. inr (omega arith)) h)

  -- data-out's bytes are the list over what stood there
  pub out_there : Alike (drop (place_size * k) with_both) (over out (drop (place_size * k) st))
  out_there n h =
      let e : place_size * k ≡ k * place_size = omega arith in
      rw e
      (apart with_out (k * place_size + list_size) inn (length inn) (omega (arith, out_long)) (omega arith) (k * place_size) n (inl (omega arith))
      ∙ ap (take n) (from_written st (k * place_size) out (omega arith) ∙ ap (λ (x : List ℕ). out ++ x) (sym (drop-drop (length out) (k * place_size) st))))

  -- so are data-in's
  pub inn_there : Alike (drop (place_size * k + list_size) with_both) (over inn (drop (place_size * k + list_size) st))
  inn_there n h =
      let e : place_size * k ≡ k * place_size = omega arith in
      let at : ℕ = k * place_size + list_size in
      let first : drop (at + length inn) with_out ≡ drop (at + length inn) st =
      sym (to_end with_out (at + length inn) out_long)
      ∙ apart st (k * place_size) out (length out) (omega arith) (omega arith) (at + length inn) store_size (inr (omega arith))
      ∙ to_end st (at + length inn) long in
      rw e
      (ap (take n)
      (from_written with_out at inn (omega (arith, out_long)) ∙ ap (λ (x : List ℕ). inn ++ x) (first ∙ sym (drop-drop (length inn) at st))))

  -- the command of that place has both
  pub here : (c : Slot) → SlotFits c → c.place ≡ k → open_of with_both c ≡ open_in (over out (drop (place_size * k) st)) (over inn (drop (place_size * k + list_size) st)) c
  here c F e = open_as with_both c _ _ F (rw e out_there) (rw e inn_there)

-- ── a change of the store at one place

module _ (st st' : List ℕ) (k : ℕ) (stays : (at n : ℕ) → (at + n ≤ place_size * k) ⊎ (place_size * k + place_size ≤ at) → take n (drop at st') ≡ take n (drop at st)) where
  -- a list of another place stays
  elsewhere : (j at n : ℕ) → (j ≡ k → ⊥) → place_size * j ≤ at → at + n ≤ place_size * j + place_size → take n (drop at st') ≡ take n (drop at st)
  elsewhere j at n ne lo hi = stays at n (⊎_elim (λ h. inl (omega arith)) (λ h. inr (omega arith)) (either j k ne))

  -- so a command of another place stays
  pub others : (c : Slot) → SlotFits c → (c.place ≡ k → ⊥) → open_of st' c ≡ open_of st c
  others c F ne =
      open_as st' c (drop (place_for_lem Out c) st) (drop (place_for_lem In c) st) F
      (λ n h. elsewhere c.place (place_size * c.place) n ne (omega arith) (omega arith))
      (λ n h. elsewhere c.place (place_size * c.place + list_size) n ne (omega arith) (omega arith))

  -- all bytes before the place stay, and all behind it
  pub before : take (place_size * k) st' ≡ take (place_size * k) st
  before = stays 0 (place_size * k) (inl (omega arith))

  pub behind : length st ≡ store_size → length st' ≡ store_size → drop (place_size * k + place_size) st' ≡ drop (place_size * k + place_size) st
  behind long long' =
      sym (to_end st' (place_size * k + place_size) long')
      ∙ stays (place_size * k + place_size) store_size (inr (omega arith))
      ∙ to_end st (place_size * k + place_size) long
