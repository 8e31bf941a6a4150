-- A command with its tables: a place of its own, what stood there carried over, and the port with the command changed.
-- Assumes nothing.
use mathlib.Core.Path.{◌≡◌, refl, sym, ◌∙◌, ap, subst}
use mathlib.Core.Bool.{Bool, true, false}
use mathlib.Core.List.{List, [], ◌∷◌, ◌++◌}
use mathlib.Core.Logic.{◌⊎◌, inl, inr, ⊎_elim}
use Prim.Native.Nat.{ℕ, zero, suc, ◌+◌, ◌-◌, ◌*◌, ◌≤◌, ◌<◌}
use native.Mathlib.Omega.{arith}
use native.Mathlib.Nat.{zero-add, suc-add}
use borrow.Author.Tests.{leb-true, leb-false}
use lib.Dec.{leb}
use lib.ListN.{length, get_or, take, drop, length-drop, length-take, take-append-drop}
use lib.Seq.{paste, take-length, length-paste, drop-drop, take-nil, take-append-le, take-append-add, get_or-take, get_or-set_same}
use Rattle.srp.specs.Lists.{over}
use Rattle.srp.specs.declared.Direction.{Direction}
use Rattle.srp.specs.declared.Direction.TheVariants.{Out, In}
use Rattle.srp.specs.declared.Request.{Request}
use Rattle.words.specs.declared.Part.{Part}
use Rattle.words.specs.declared.Slot.{Slot}
use Rattle.words.specs.Sizes.{most_slots, list_size, place_size, store_size}
use Rattle.words.specs.Slots.{SlotFits, slots, no_slot, not_waiting_lem, place_at_lem, place_for_lem}
use Rattle.words.specs.Head.{head_of, SlotChanged}
use Rattle.words.specs.View.{opens, open_of}
use Rattle.srp.proofs.FieldLaws.{front}
use Rattle.words.proofs.Slots.{apart, from_written, slots_long}
use Rattle.words.proofs.Ports.{opens_long, slot_fits}
use Rattle.store.specs.Places.{Free, Holding, place_of, new_slot, under, supplied, Supplied, Carried}
use Rattle.store.proofs.Placing.{open_alike, with_both, both_long, outside, here, others, before, behind}

-- ── a place carried to another

-- its bytes written there
module _ (st : List ℕ) (long : length st ≡ store_size) (p k : ℕ) (hp : p < most_slots) (hk : k < most_slots) where
  abbrev kept : List ℕ
  kept = take place_size (drop (p * place_size) st)

  kept_long : length kept ≡ place_size
  kept_long = rw length-take (rw length-drop (omega arith))

  abbrev moved : List ℕ
  moved = paste st (k * place_size) kept (length kept)

  -- n bytes of the place, from one on
  part : (i n : ℕ) → i + n ≤ place_size → take n (drop (k * place_size + i) moved) ≡ take n (drop (p * place_size + i) st)
  part i n h =
      ap (take n) (sym (drop-drop i (k * place_size) moved) ∙ ap (drop i) (from_written st (k * place_size) kept (omega (arith, kept_long))))
      ∙ front kept _ i n (omega (arith, kept_long))
      ∙ sym (front kept (drop place_size (drop (p * place_size) st)) i n (omega (arith, kept_long)))
      ∙ ap (λ (x : List ℕ). take n (drop i x)) (take-append-drop place_size (drop (p * place_size) st))
      ∙ ap (take n) (drop-drop i (p * place_size) st)

  pub carried : Carried st moved p k
  carried =
      record {
        there = there;
        elsewhere = λ at n h. apart st (k * place_size) kept (length kept) (omega (arith, kept_long)) (omega arith) at n (⊎_elim (λ g. inl (omega arith)) (λ g. inr (omega (arith, kept_long))) h);
        size = length-paste st (k * place_size) kept (length kept) (omega (arith, kept_long)) (omega arith);
      }
    where
      there : (d : Direction) (n : ℕ) → n ≤ list_size → take n (drop (place_at_lem d k) moved) ≡ take n (drop (place_at_lem d p) st)
      there Out n h =
          let e : place_size * k ≡ k * place_size + 0 = omega arith in
          let f : place_size * p ≡ p * place_size + 0 = omega arith in
          rw (e, f) (part 0 n (omega arith))
      there In n h =
          let e : place_size * k + list_size ≡ k * place_size + list_size = omega arith in
          let f : place_size * p + list_size ≡ p * place_size + list_size = omega arith in
          rw (e, f) (part list_size n (omega arith))

  -- as they are copied within the store
  pub carried_over : (m : ℕ) → m ≡ place_size → Carried st (paste st (k * place_size) (drop (p * place_size) st) m) p k
  carried_over m e = rw e (rw (take-length kept, kept_long) at carried)

-- ── the command changed

-- the first m behind k, of the first k + m
sub_list : (k m : ℕ) (l : List ℕ) → take m (drop k l) ≡ drop k (take (k + m) l)
sub_list zero m l = ap (λ (j : ℕ). take j l) (sym (zero-add m))
sub_list (suc k) m [] = take-nil m ∙ sym (ap (drop (suc k)) (take-nil (suc k + m)))
sub_list (suc k) m (x ∷ xs) = sub_list k m xs ∙ ap (λ (j : ℕ). drop (suc k) (take j (x ∷ xs))) (sym (suc-add k m))

-- tables over bytes that agree as far as a direction's list goes
over_alike : (t a b : List ℕ) → ((n : ℕ) → n ≤ list_size → take n a ≡ take n b) → (n : ℕ) → n ≤ list_size → take n (over t a) ≡ take n (over t b)
over_alike t a b e n h = go (leb n (length t)) refl
  where
    beyond : (m : ℕ) → length t + m ≤ list_size → take (length t + m) (over t a) ≡ take (length t + m) (over t b)
    beyond m q =
        take-append-add t (drop (length t) a) m
        ∙ ap (λ (x : List ℕ). t ++ x) (sub_list (length t) m a ∙ ap (drop (length t)) (e (length t + m) q) ∙ sym (sub_list (length t) m b))
        ∙ sym (take-append-add t (drop (length t) b) m)

    go : (y : Bool) → leb n (length t) ≡ y → take n (over t a) ≡ take n (over t b)
    go true f =
        let q : n ≤ length t = leb-true n (length t) f in
        take-append-le n t (drop (length t) a) q ∙ sym (take-append-le n t (drop (length t) b) q)
    go false f =
        let q : length t < n = leb-false n (length t) f in
        let z : length t + (n - length t) ≡ n = omega arith in
        subst (λ (j : ℕ). take j (over t a) ≡ take j (over t b)) z (beyond (n - length t) (omega arith))

-- a command's directions are in a slot's ranges
pub ready_fits : (r : Request) (k : ℕ) (o n : Part) (out inn : List ℕ) → k < most_slots → Holding out o → Holding inn n → SlotFits (new_slot r k o n not_waiting_lem)
ready_fits r k o n out inn small Ho Hi =
    record {
      place = small;
      out = record { few = Ho.few; counted = Ho.counted };
      inn = record { few = Hi.few; counted = Hi.counted };
      awaits =
          record {
            out = record { format = omega arith; few = omega arith; unplaced = refl };
            inn = record { format = omega arith; few = omega arith; unplaced = refl };
          };
    }

module _ (l st : List ℕ) (i : ℕ) (inside : i < (head_of l).held) (long : length st ≡ store_size) (o n : Part) (out inn : List ℕ) (Ho : Holding out o) (Hi : Holding inn n)
    (k : ℕ) (free : Free i (opens l) k) (st₁ : List ℕ) (C : Carried st st₁ (place_of i l) k) where
  abbrev old : Slot
  old = get_or (slots l) i no_slot

  abbrev slot : Slot
  slot = new_slot old.request k o n not_waiting_lem

  pub long₁ : length st₁ ≡ store_size
  long₁ = C.size ∙ long

  abbrev stored : List ℕ
  stored = with_both st₁ out inn long₁ Ho.short Hi.short k free.small

  stays : (at m : ℕ) → (at + m ≤ place_size * k) ⊎ (place_size * k + place_size ≤ at) → take m (drop at stored) ≡ take m (drop at st)
  stays at m h = outside st₁ out inn long₁ Ho.short Hi.short k free.small at m h ∙ C.elsewhere at m h

  this : open_of stored slot ≡ supplied st old o n out inn
  this =
      let F = ready_fits old.request k o n out inn free.small Ho Hi in
      here st₁ out inn long₁ Ho.short Hi.short k free.small slot F refl
      ∙ open_alike _ _ (under Out st old out) (under In st old inn) slot F
      (over_alike out (drop (place_at_lem Out k) st₁) (drop (place_for_lem Out old) st) (C.there Out))
      (over_alike inn (drop (place_at_lem In k) st₁) (drop (place_for_lem In old) st) (C.there In))

  -- the other commands stay
  rest : (j : ℕ) → j < (head_of l).held → (j ≡ i → ⊥) → open_of stored (get_or (slots l) j no_slot) ≡ open_of st (get_or (slots l) j no_slot)
  rest j h ne =
      let e : get_or (opens l) j no_slot ≡ get_or (slots l) j no_slot = get_or-take (head_of l).held (slots l) j no_slot h in
      others st stored k stays (get_or (slots l) j no_slot) (slot_fits l j (omega arith))
      (λ q. free.apart j (omega (arith, opens_long l)) ne (ap (λ (c : Slot). c.place) e ∙ q))

  pub brought : (l' : List ℕ) → SlotChanged l l' i (λ _. slot) → Supplied i l st l' stored o n out inn
  brought l' S =
      let e : place_of i l' ≡ k =
      ap (λ (cs : List Slot). (get_or cs i no_slot).place) S.slots
      ∙ ap (λ (c : Slot). c.place) (get_or-set_same (slots l) i slot no_slot (rw (slots_long most_slots 0 l) (omega arith))) in
      let long' = both_long st₁ out inn long₁ Ho.short Hi.short k free.small in
      record {
        head = S.head;
        line = S.line;
        slot = slot;
        changed = S.slots;
        this = this;
        others = rest;
        place =
            record {
              free = rw e free;
              before = rw e (before st stored k stays);
              behind = rw e (behind st stored k stays long long');
              size = long' ∙ sym long;
            };
      }
