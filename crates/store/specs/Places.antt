-- The places of the store, the port with one command more, and a command with its tables.
use Rattle.std.specs.Prelude.{◌≡◌, ◌⊎◌, Bool, true, false, cond, List, [], ◌∷◌, ◌++◌, ℕ, ◌+◌, ◌-◌, ◌*◌, ◌≤◌, ◌<◌, length, get_or, take, drop, set}
use Rattle.std.proofs.Math.Option.{none, some}
use Rattle.srp.specs.Lists.{over}
use Rattle.srp.specs.Limits.{most_copies}
use Rattle.srp.specs.Bytes.{bit}
use Rattle.srp.specs.Descriptors.{standing_size_lem}
use Rattle.srp.specs.Credit.{unmoved, Open, Port, with_held}
use Rattle.srp.specs.declared.Request.{Request}
use Rattle.srp.specs.declared.Descriptor.{Descriptor}
use Rattle.srp.specs.declared.Direction.{Direction}
use Rattle.srp.specs.declared.Direction.TheVariants.{Out, In}
use Rattle.words.specs.Sizes.{most_slots, list_size, place_size}
use Rattle.words.specs.Slots.{TableFits, slots, no_slot, not_waiting_lem, place_at_lem, place_for_lem}
use Rattle.words.specs.Line.{line}
use Rattle.words.specs.Head.{head_of}
use Rattle.words.specs.View.{opens, side_of, given_of, open_of, shown}
use Rattle.words.specs.declared.Part.{Part}
use Rattle.words.specs.declared.Awaited.{Awaited}
use Rattle.words.specs.declared.Slot.{Slot}

-- how many are true
unfoldable pub trues : List Bool → ℕ
trues [] = 0
trues (b ∷ bs) = bit b + trues bs

-- f says of each place whether a slot of l, but for slot i, uses it, and says so of no more places than there are such slots
pub record Marked (i : ℕ) (l : List Slot) (f : List Bool) : Type 0 where
  pub marks : (j : ℕ) → j < length l → (j ≡ i → ⊥) → get_or f (get_or l j no_slot).place false ≡ true
  pub few : trues f ≤ length l
  pub fewer : i < length l → trues f < length l
  pub long : length f ≡ most_slots

-- no slot of l, but for slot i, uses place k
pub record Free (i : ℕ) (l : List Slot) (k : ℕ) : Type 0 where
  pub small : k < most_slots
  pub apart : (j : ℕ) → j < length l → (j ≡ i → ⊥) → (get_or l j no_slot).place ≡ k → ⊥

-- a list of memory descriptors from which a direction of a new command reads its segments, or what stood in its message
pub record Holds (list : List ℕ) (p : Part) (d : Descriptor) : Type 0 where
  pub short : length list ≤ list_size
  pub segments : 16 * p.segments ≤ length list
  pub standing : standing_size_lem d ≤ length list
  pub counted : p.transfer.number ≤ p.transfer.at
  pub table : TableFits d

-- a table, or none, from which and from what stands under it a direction reads its segments
pub record Holding (list : List ℕ) (p : Part) : Type 0 where
  pub short : length list ≤ list_size
  pub few : p.segments ≤ most_copies
  pub counted : p.transfer.number ≤ p.transfer.at

-- a direction with so many segments, of which nothing was planned, named or handed out
abbrev pub new_part_lem : ℕ → ℕ → Part
new_part_lem segments total = record { segments = segments; total = total; transfer = unmoved }

-- a command that is not planned, at a place of the store
abbrev pub new_slot : Request → ℕ → Part → Part → Awaited → Slot
new_slot r place out inn a = record { request = r; planned = false; place = place; out = out; inn = inn; awaits = a }

-- as the port has it, where the bytes `out` and `inn` stand at its place, each way
abbrev pub open_in : (out inn : List ℕ) → Slot → Open
open_in out inn c =
    record {
      request = c.request;
      awaits = cond c.awaits.waiting (some (record { out = given_of out 0 c.awaits.out; inn = given_of inn 0 c.awaits.inn })) none;
      planned = c.planned;
      sides = record { out = side_of out 0 c.out; inn = side_of inn 0 c.inn };
    }

-- one announced buffer less, one command more
abbrev pub with_one_more : Open → Port → Port
with_one_more c p = with_held p (p.announced - 1) (p.held ++ (c ∷ []))

-- the place of the command in slot i
abbrev pub place_of : ℕ → List ℕ → ℕ
place_of i l = (get_or (slots l) i no_slot).place

-- the command in slot i after a call: its place is one that no other open command uses, and every byte of the other places is as it was
pub record OwnPlace (i : ℕ) (l st l' st' : List ℕ) : Type 0 where
  pub free : Free i (opens l) (place_of i l')
  pub before : take (place_size * place_of i l') st' ≡ take (place_size * place_of i l') st
  pub behind : drop (place_size * place_of i l' + place_size) st' ≡ drop (place_size * place_of i l' + place_size) st
  pub size : length st' ≡ length st

-- a command is entered with these directions and lists, in the slot behind the open ones
pub record Entered (l st l' st' : List ℕ) (r : Request) (o n : Part) (a : Awaited) (out inn : List ℕ) : Type 0 where
  pub live : (head_of l').live ≡ (head_of l).live
  pub port : shown l' st' ≡ with_one_more (open_in out inn (new_slot r 0 o n a)) (shown l st)
  pub place : OwnPlace (head_of l).held l st l' st'

-- ── tables brought

-- the bytes of a direction at its command's place, under a table that is written over them
abbrev pub under : Direction → List ℕ → Slot → List ℕ → List ℕ
under d st c table = over table (drop (place_for_lem d c) st)

-- the command of slot c with these directions, which waits no longer
abbrev pub supplied : List ℕ → Slot → (o n : Part) (out inn : List ℕ) → Open
supplied st c o n out inn = open_in (under Out st c out) (under In st c inn) (new_slot c.request 0 o n not_waiting_lem)

-- the command in slot i has its tables: the other commands stay, the head and the line
pub record Supplied (i : ℕ) (l st l' st' : List ℕ) (o n : Part) (out inn : List ℕ) : Type 0 where
  pub head : head_of l' ≡ head_of l
  pub line : line l' ≡ line l
  pub slot : Slot
  pub changed : slots l' ≡ set (slots l) i slot
  pub this : open_of st' slot ≡ supplied st (get_or (slots l) i no_slot) o n out inn
  pub others : (j : ℕ) → j < (head_of l).held → (j ≡ i → ⊥) → open_of st' (get_or (slots l) j no_slot) ≡ open_of st (get_or (slots l) j no_slot)
  pub place : OwnPlace i l st l' st'

-- the bytes of place p stand at place k of the store too, and all others stay
pub record Carried (st st' : List ℕ) (p k : ℕ) : Type 0 where
  pub there : (d : Direction) (n : ℕ) → n ≤ list_size → take n (drop (place_at_lem d k) st') ≡ take n (drop (place_at_lem d p) st)
  pub elsewhere : (at n : ℕ) → (at + n ≤ place_size * k) ⊎ (place_size * k + place_size ≤ at) → take n (drop at st') ≡ take n (drop at st)
  pub size : length st' ≡ length st
