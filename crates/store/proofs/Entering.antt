-- The port with one command more, its memory descriptors at a place of the store that no open command uses.
-- Assumes nothing.
use mathlib.Core.Path.{◌≡◌, refl, sym, ◌∙◌, ap}
use mathlib.Core.List.{List, [], ◌∷◌, ◌++◌, map, map-append}
use mathlib.Core.Logic.{◌⊎◌}
use Prim.Native.Nat.{ℕ, ◌+◌, ◌-◌, ◌*◌, ◌≤◌, ◌<◌}
use native.Mathlib.Omega.{arith}
use native.Mathlib.Numerals.{add-one}
use lib.ListN.{length, get_or, take, drop, set}
use lib.Seq.{take-append-le, take-suc-set, get_or-take, get_or-set_same}
use Rattle.srp.specs.Descriptors.{standing_size_lem}
use Rattle.srp.specs.declared.Descriptor.{Descriptor}
use Rattle.srp.specs.declared.Request.{Request}
use Rattle.srp.proofs.ListLaws.{map_same}
use Rattle.words.specs.declared.Head.{Head}
use Rattle.words.specs.declared.Part.{Part}
use Rattle.words.specs.declared.Awaited.{Awaited}
use Rattle.words.specs.declared.Slot.{Slot}
use Rattle.words.specs.Sizes.{most_slots, place_size, store_size}
use Rattle.words.specs.Slots.{SlotFits, slots, no_slot}
use Rattle.words.specs.Head.{HeadIs, CountsFit, head_of, counted_of, SlotChanged, HeadChanged}
use Rattle.words.specs.View.{side_of, given_of, opens, open_of, open_port_lem}
use Rattle.words.proofs.Slots.{slots_long}
use Rattle.words.proofs.Ports.{opens_long, slot_fits}
use Rattle.store.specs.Places.{Free, Holds, OwnPlace, Entered, place_of, new_slot, open_in}
use Rattle.store.proofs.Placing.{with_both, both_long, outside, here, others, before, behind}

-- an open command is in its ranges
pub open_fits : (l : List ℕ) (j : ℕ) → j < (head_of l).held → SlotFits (get_or (opens l) j no_slot)
open_fits l j h = rw (get_or-take (head_of l).held (slots l) j no_slot h) (slot_fits l j (omega arith))

-- a direction reads no further than its list
held_side : (list rest : List ℕ) (p : Part) (d : Descriptor) → Holds list p d → side_of (list ++ rest) 0 p ≡ side_of list 0 p
held_side list rest p d H = rw (take-append-le (16 * p.segments) list rest H.segments) refl

held_given : (list rest : List ℕ) (p : Part) (d : Descriptor) → Holds list p d → given_of (list ++ rest) 0 d ≡ given_of list 0 d
held_given list rest p d H = rw (take-append-le (standing_size_lem d) list rest H.standing) refl

-- ── what is written fits

-- where a buffer is announced, a slot is left
pub slot_left : (l : List ℕ) (h : Head) → HeadIs l h → 0 < (head_of l).announced → h.held < most_slots
slot_left l h H pos = omega (arith, H.fits.counts.room, H.announced)

-- the new command is in a slot's ranges
pub new_fits : (r : Request) (k : ℕ) (o n : Part) (a : Awaited) (out inn : List ℕ) → k < most_slots → Holds out o a.out → Holds inn n a.inn
    → SlotFits (new_slot r k o n a)
new_fits r k o n a out inn small Ho Hi =
    record {
      place = small;
      out = record { few = omega (arith, Ho.short, Ho.segments); counted = Ho.counted };
      inn = record { few = omega (arith, Hi.short, Hi.segments); counted = Hi.counted };
      awaits = record { out = Ho.table; inn = Hi.table };
    }

-- one command more and one announced buffer less are in the head's ranges
pub counts_fit : (l : List ℕ) (h : Head) → HeadIs l h → 0 < (head_of l).announced → CountsFit (h.held + 1) h.wanted (h.announced - 1)
counts_fit l h H pos =
    let F = H.fits.counts in
    record { least = F.least; most = F.most; room = omega (arith, F.room, H.announced) }

-- ── the new command behind the open ones

module _ (st out inn : List ℕ) (o n : Part) (a : Awaited) (long : length st ≡ store_size) (Ho : Holds out o a.out) (Hi : Holds inn n a.inn)
    (l : List ℕ) (k : ℕ) (free : Free (head_of l).held (opens l) k) (room : (head_of l).held < most_slots) (r : Request) where
  -- its slot, and the store with its lists
  abbrev slot : Slot
  slot = new_slot r k o n a

  abbrev stored : List ℕ
  stored = with_both st out inn long Ho.short Hi.short k free.small

  stays : (at m : ℕ) → (at + m ≤ place_size * k) ⊎ (place_size * k + place_size ≤ at) → take m (drop at stored) ≡ take m (drop at st)
  stays = outside st out inn long Ho.short Hi.short k free.small

  -- it has both lists
  this : open_of stored slot ≡ open_in out inn (new_slot r 0 o n a)
  this =
      here st out inn long Ho.short Hi.short k free.small slot (new_fits r k o n a out inn free.small Ho Hi) refl
      ∙ rw (held_side out _ o a.out Ho, held_side inn _ n a.inn Hi, held_given out _ o a.out Ho, held_given inn _ n a.inn Hi) refl

  -- the open commands stay, and the new one is the last
  held : map (open_of stored) (take ((head_of l).held + 1) (set (slots l) (head_of l).held slot)) ≡ map (open_of st) (opens l) ++ (open_in out inn (new_slot r 0 o n a) ∷ [])
  held =
      rw
      (add-one, take-suc-set (slots l) (head_of l).held slot (rw (slots_long most_slots 0 l) room), map-append, this, map_same (open_of stored) (open_of st) (opens l) no_slot (λ j q. others st stored k stays (get_or (opens l) j no_slot) (open_fits l j (omega (arith, opens_long l))) (free.apart j q (λ e. omega (arith, opens_long l)))))
      refl

  -- the store has changed at the new command's place alone
  own : (l' : List ℕ) → slots l' ≡ set (slots l) (head_of l).held slot → OwnPlace (head_of l).held l st l' stored
  own l' sl =
      let e : place_of (head_of l).held l' ≡ k =
      ap (λ (cs : List Slot). (get_or cs (head_of l).held no_slot).place) sl
      ∙ ap (λ (c : Slot). c.place) (get_or-set_same (slots l) (head_of l).held slot no_slot (rw (slots_long most_slots 0 l) room)) in
      let long' = both_long st out inn long Ho.short Hi.short k free.small in
      record {
        free = rw e free;
        before = rw e (before st stored k stays);
        behind = rw e (behind st stored k stays long long');
        size = long' ∙ sym long;
      }

  -- the words with the slot, then with the counts, are the port with the command; the other counts are those of the head that was read
  pub entered : (h : Head) → h ≡ head_of l → (l₁ : List ℕ) → SlotChanged l l₁ h.held (λ _. slot)
      → (l' : List ℕ) → HeadChanged l₁ l' (counted_of (h.held + 1) h.wanted (h.announced - 1) h.unanswered)
      → Entered l st l' stored r o n a out inn
  entered h is l₁ S l' H =
      let hl : head_of l' ≡ counted_of ((head_of l).held + 1) (head_of l).wanted ((head_of l).announced - 1) (head_of l).unanswered (head_of l) =
      H.head
      ∙ ap (counted_of (h.held + 1) h.wanted (h.announced - 1) h.unanswered) S.head
      ∙ ap (λ (x : Head). counted_of (x.held + 1) x.wanted (x.announced - 1) x.unanswered (head_of l)) is in
      let sl : slots l' ≡ set (slots l) (head_of l).held slot = H.slots ∙ S.slots ∙ ap (λ (x : Head). set (slots l) x.held slot) is in
      record {
        live = ap (λ (x : Head). x.live) hl;
        port = (λ j. open_port_lem (hl j) (slots l') ((H.line ∙ S.line) j) stored) ∙ rw (sl, held) refl;
        place = own l' sl;
      }
