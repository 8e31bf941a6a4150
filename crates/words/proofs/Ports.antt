-- The port that words are: its open commands, its ranges, open and closed.
-- Assumes nothing.
use mathlib.Core.Path.{◌≡◌, refl, ◌∙◌, ap}
use mathlib.Core.Bool.{Bool, true, false, cond}
use mathlib.Core.List.{List, []}
use mathlib.Core.Logic.{◌⊎◌, inl, inr}
use Prim.Native.Nat.{ℕ, zero, suc, min, ◌+◌, ◌<◌}
use native.Mathlib.Omega.{arith}
use lib.ListN.{length, get_or, take, replicate, length-map}
use lib.Seq.{length-take-le, get_or-take, get_or-drop}
use Rattle.srp.specs.Limits.{most_moves}
use Rattle.srp.specs.Cutting.{bad_boundary}
use Rattle.srp.specs.Credit.{closed_port}
use Rattle.words.specs.declared.Slot.{Slot}
use Rattle.words.specs.Sizes.{port_words, most_slots, line_at}
use Rattle.words.specs.Slots.{part_at_lem, part_in, descriptor_in, table_at, slot_of_lem, PartFits, TableFits, SlotFits, slot_at, region, slots, no_slot}
use Rattle.srp.specs.declared.Direction.TheVariants.{Out, In}
use Rattle.words.specs.Line.{behind, ring, line}
use Rattle.words.specs.Head.{boundary_in, head_of, HeadFits}
use Rattle.words.specs.View.{opens, open_of, shown, view, closed_words, InRanges}
use Rattle.srp.proofs.Boundaries.{zero_good}
use Rattle.words.proofs.Slots.{slots_long, slot_at_lem, slot_tag}

-- ── ranges

-- the direction and the slot that words say are in their ranges
pub part_fits : (r : List ℕ) (k : ℕ) → PartFits (part_in r k)
part_fits r k = record { few = omega arith; counted = omega arith }

table_fits : (r : List ℕ) (k : ℕ) → TableFits (descriptor_in r k)
table_fits r k = record { format = omega arith; few = omega arith; unplaced = refl }

pub said_fits : (r : List ℕ) → SlotFits (slot_of_lem r)
said_fits r =
    record {
      place = omega arith;
      out = part_fits r (part_at_lem Out);
      inn = part_fits r (part_at_lem In);
      awaits = record { out = table_fits r (table_at Out); inn = table_fits r (table_at In) };
    }

-- a slot of a port is in its ranges
pub slot_fits : (l : List ℕ) (i : ℕ) → i < most_slots → SlotFits (get_or (slots l) i no_slot)
slot_fits l i h = rw (slot_at_lem l i h) (said_fits (region l i))

-- a Q that is read is good
read_good : (word : ℕ) → bad_boundary (boundary_in word) ≡ false
read_good word = go (bad_boundary word) refl
  where
    go : (b : Bool) → bad_boundary word ≡ b → bad_boundary (cond b 0 word) ≡ false
    go true e = zero_good
    go false e = e

-- so is a head
pub head_fits : (l : List ℕ) → HeadFits (head_of l)
head_fits l =
    record {
      counts = record { least = omega arith; most = omega arith; room = omega arith };
      terms =
          record {
            smallest = omega arith;
            largest = omega arith;
            boundary = read_good (get_or l 10 0);
            shortest = omega arith;
            longest = omega arith;
            even = omega arith;
            formats = omega arith;
          };
    }

-- ── the open commands

-- there are as many as the head says
pub opens_long : (l : List ℕ) → length (opens l) ≡ (head_of l).held
opens_long l = length-take-le (head_of l).held (slots l) (omega (arith, slots_long most_slots 0 l))

-- the tag of an open command is its slot's first word
pub tag_at : (l : List ℕ) (i : ℕ) → i < (head_of l).held → (get_or (opens l) i no_slot).request.tag ≡ get_or l (slot_at i) 0
tag_at l i h = ap (λ (c : Slot). c.request.tag) (get_or-take (head_of l).held (slots l) i no_slot h) ∙ slot_tag l i (omega arith)

-- ── open and closed

-- words that say open are the port of their head and slots
pub while_open : (l st : List ℕ) → (head_of l).live ≡ true → view l st ≡ shown l st
while_open l st e = ap (λ (b : Bool). cond b (shown l st) closed_port) e

-- words that say closed are the closed port, whatever else they say
pub while_closed : (l st : List ℕ) → (head_of l).live ≡ false → view l st ≡ closed_port
while_closed l st e = ap (λ (b : Bool). cond b (shown l st) closed_port) e

-- the port is open where the head says so
pub view_live : (l st : List ℕ) → (view l st).live ≡ (head_of l).live
view_live l st = go (head_of l).live
  where
    go : (b : Bool) → (cond b (shown l st) closed_port).live ≡ b
    go true = refl
    go false = refl

-- ── the closed port's words

zeros_at : (n k : ℕ) → ◌≡◌ {A = ℕ} (get_or (replicate n 0) k 0) 0
zeros_at zero k = refl
zeros_at (suc n) zero = refl
zeros_at (suc n) (suc k) = zeros_at n k

-- each of them is 0
pub closed_word : (k : ℕ) → get_or closed_words k 0 ≡ 0
closed_word k = zeros_at port_words k

-- their line is empty
pub closed_line : line closed_words ≡ []
closed_line =
    let e : get_or (behind closed_words) 1 0 ≡ 0 = get_or-drop line_at closed_words 1 0 ∙ closed_word (line_at + 1) in
    ap (λ (n : ℕ). take (min n most_moves) (ring closed_words)) e

-- they are the closed port
pub closed_view : (l st : List ℕ) → l ≡ closed_words → view l st ≡ closed_port
closed_view l st e = ap (λ (x : List ℕ). view x st) e ∙ while_closed closed_words st refl

-- ── any words are a port

shown_ranges : (l st : List ℕ) → InRanges (shown l st)
shown_ranges l st =
    let F : HeadFits (head_of l) = head_fits l in
    let n : length (shown l st).held ≡ (head_of l).held = length-map (opens l) (open_of st) ∙ opens_long l in
    record { counts = rw n F.counts; terms = F.terms }

-- the port that any words are is closed, or in the papers' ranges
pub any_words : (l st : List ℕ) → (view l st ≡ closed_port) ⊎ InRanges (view l st)
any_words l st = go (head_of l).live
  where
    go : (b : Bool) → (cond b (shown l st) closed_port ≡ closed_port) ⊎ InRanges (cond b (shown l st) closed_port)
    go true = inr (shown_ranges l st)
    go false = inl refl
