-- The commands in their slots. Each number is read into its range, so any words are a slot; the words behind those in use are not read.
use Rattle.std.specs.Prelude.{◌≡◌, Bool, true, false, List, [], ◌∷◌, ◌++◌, ℕ, zero, suc, min, ◌+◌, ◌*◌, ◌≤◌, ◌<◌, ◌%◌, ◌^◌, eqb, take, drop, get_or}
use Rattle.srp.specs.Limits.{most_copies}
use Rattle.srp.specs.Bytes.{bit}
use Rattle.srp.specs.Both.{Both, of, alter, along}
use Rattle.srp.specs.Credit.{unmoved, with_required, with_current}
use Rattle.srp.specs.declared.Direction.{Direction}
use Rattle.srp.specs.declared.Direction.TheVariants.{Out, In}
use Rattle.srp.specs.declared.Request.{Request}
use Rattle.srp.specs.declared.Transfer.{Transfer}
use Rattle.srp.specs.declared.Descriptor.{Descriptor}
use Rattle.words.specs.Sizes.{most_slots, head_size, slot_words, parts_at, part_words, first_words, table_words, list_size, place_size}
use Rattle.words.specs.declared.Part.{Part}
use Rattle.words.specs.declared.Awaited.{Awaited}
use Rattle.words.specs.declared.Slot.{Slot}

-- ── a slot's words

abbrev pub on : ℕ → Bool
on x = eqb (x % 2) 1

abbrev pub slot_request : List ℕ → Request
slot_request r = record { tag = get_or r 0 0; lun = get_or r 1 0; ucsolnt = on (get_or r 2 0); scsolnt = on (get_or r 3 0) }

-- where a direction's words stand in its slot
abbrev pub part_at_lem : Direction → ℕ
part_at_lem Out = parts_at
part_at_lem In = parts_at + part_words

-- one direction, in the words from k on; the move had at most as many operations as the next byte's offset says, since each had a byte
abbrev pub part_in : List ℕ → ℕ → Part
part_in r k =
    let next : ℕ = get_or r (k + 4) 0 % 2 ^ 32 in
    record {
      segments = min (get_or r k 0) most_copies;
      total = get_or r (k + 1) 0 % 2 ^ 32;
      transfer =
          record {
            required = get_or r (k + 2) 0 % 2 ^ 32;
            highest = get_or r (k + 3) 0 % 2 ^ 32;
            at = next;
            end = get_or r (k + 5) 0 % 2 ^ 32;
            number = min (get_or r (k + 6) 0) next;
          };
    }

-- what is kept of a descriptor while the command waits, in the words from k on: not where it stood in its message
abbrev pub descriptor_in : List ℕ → ℕ → Descriptor
descriptor_in r k =
    record {
      format = get_or r k 0 % 3;
      count = min (get_or r (k + 1) 0) most_copies;
      at = 0;
      len = get_or r (k + 2) 0 % 2 ^ 32;
      total = get_or r (k + 3) 0 % 2 ^ 32;
    }

-- where a direction's descriptor stands in its slot
abbrev pub table_at : Direction → ℕ
table_at Out = first_words + 1
table_at In = first_words + 1 + table_words

abbrev pub awaited_in : List ℕ → Awaited
awaited_in r = record { waiting = on (get_or r first_words 0); out = descriptor_in r (table_at Out); inn = descriptor_in r (table_at In) }

abbrev pub slot_of_lem : List ℕ → Slot
slot_of_lem r =
    record {
      request = slot_request r;
      planned = on (get_or r 4 0);
      place = get_or r 5 0 % most_slots;
      out = part_in r (part_at_lem Out);
      inn = part_in r (part_at_lem In);
      awaits = awaited_in r;
    }

abbrev pub part_words_of : Part → List ℕ
part_words_of p =
    p.segments ∷ p.total ∷ p.transfer.required ∷ p.transfer.highest ∷ p.transfer.at ∷ p.transfer.end ∷ p.transfer.number ∷ []

abbrev pub table_words_of : Descriptor → List ℕ
table_words_of d = d.format ∷ d.count ∷ d.len ∷ d.total ∷ []

abbrev pub awaited_words_of : Awaited → List ℕ
awaited_words_of a = bit a.waiting ∷ table_words_of a.out ++ table_words_of a.inn

-- the words of a slot that are used: up to its directions, and all
abbrev pub first_words_of : Slot → List ℕ
first_words_of c =
    c.request.tag ∷ c.request.lun ∷ bit c.request.ucsolnt ∷ bit c.request.scsolnt
    ∷ bit c.planned
    ∷ c.place
    ∷ part_words_of c.out
    ++ part_words_of c.inn

abbrev pub words_of : Slot → List ℕ
words_of c = first_words_of c ++ awaited_words_of c.awaits

-- a direction, a descriptor and a slot that their words can hold
pub record PartFits (p : Part) : Type 0 where
  pub few : p.segments ≤ most_copies
  pub counted : p.transfer.number ≤ p.transfer.at

pub record TableFits (d : Descriptor) : Type 0 where
  pub format : d.format ≤ 2
  pub few : d.count ≤ most_copies
  pub unplaced : d.at ≡ 0

pub record AwaitedFits (a : Awaited) : Type 0 where
  pub out : TableFits a.out
  pub inn : TableFits a.inn

pub record SlotFits (c : Slot) : Type 0 where
  pub place : c.place < most_slots
  pub out : PartFits c.out
  pub inn : PartFits c.inn
  pub awaits : AwaitedFits c.awaits

-- ── the slots of a port

abbrev pub slot_at : ℕ → ℕ
slot_at i = slot_words * i + head_size

abbrev pub region : List ℕ → ℕ → List ℕ
region l i = take slot_words (drop (slot_at i) l)

unfoldable pub slots_from : ℕ → ℕ → List ℕ → List Slot
slots_from zero i l = []
slots_from (suc n) i l = slot_of_lem (region l i) ∷ slots_from n (i + 1) l

abbrev pub slots : List ℕ → List Slot
slots l = slots_from most_slots 0 l

abbrev pub no_part : Part
no_part = record { segments = 0; total = 0; transfer = unmoved }

abbrev pub no_table : Descriptor
no_table = record { format = 0; count = 0; at = 0; len = 0; total = 0 }

abbrev pub not_waiting_lem : Awaited
not_waiting_lem = record { waiting = false; out = no_table; inn = no_table }

abbrev pub no_slot : Slot
no_slot =
    record {
      request = record { tag = 0; lun = 0; ucsolnt = false; scsolnt = false };
      planned = false;
      place = 0;
      out = no_part;
      inn = no_part;
      awaits = not_waiting_lem;
    }

-- a slot that was read
pub record SlotIs (l : List ℕ) (i : ℕ) (c : Slot) : Type 0 where
  pub whole : c ≡ get_or (slots l) i no_slot
  pub fits : SlotFits c

-- ── both directions of a slot

abbrev pub parts_of : Slot → Both Part
parts_of c = record { out = c.out; inn = c.inn }

abbrev pub part_for : Direction → Slot → Part
part_for d c = of d (parts_of c)

-- a direction that was read
pub record PartIs (l : List ℕ) (i : ℕ) (d : Direction) (p : Part) : Type 0 where
  pub whole : p ≡ part_for d (get_or (slots l) i no_slot)
  pub fits : PartFits p

-- where a direction's memory descriptors stand in the store, by the command's place there
abbrev pub place_at_lem : Direction → ℕ → ℕ
place_at_lem Out place = place_size * place
place_at_lem In place = place_size * place + list_size

abbrev pub place_for_lem : Direction → Slot → ℕ
place_for_lem d c = place_at_lem d c.place

-- ── a plan stated, a move named or handed out

-- a slot with another state of its plan and its directions
abbrev pub with_parts : Slot → Bool → Both Part → Slot
with_parts c planned ps = record { request = c.request; planned = planned; place = c.place; out = ps.out; inn = ps.inn; awaits = c.awaits }

abbrev pub part_with : Part → Transfer → Part
part_with p t = record { segments = p.segments; total = p.total; transfer = t }

abbrev pub requiring_of : ℕ → Part → Part
requiring_of r p = part_with p (with_required r p.transfer)

abbrev pub planned_slot : ℕ → ℕ → Slot → Slot
planned_slot out inn c = with_parts c true (along requiring_of (record { out = out; inn = inn }) (parts_of c))

-- a slot with another h and another current move of a direction
abbrev pub moved_slot : Direction → (highest at end number : ℕ) → Slot → Slot
moved_slot d highest at end number c =
    with_parts c c.planned (alter d (λ p. part_with p (with_current highest at end number p.transfer)) (parts_of c))
