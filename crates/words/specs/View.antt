-- The port that words and a store are. Each number is read into its range, so any words are a port.
use Rattle.std.specs.Prelude.{true, cond, List, map, ℕ, ◌*◌, length, take, drop, replicate}
use Rattle.std.proofs.Math.Option.{Option, none, some}
use Rattle.srp.specs.Both.{Both}
use Rattle.srp.specs.Descriptors.{segments_of, standing_size_lem, Given, giving}
use Rattle.srp.specs.Credit.{Side, Open, Port, closed_port}
use Rattle.srp.specs.declared.Direction.TheVariants.{Out, In}
use Rattle.srp.specs.declared.Descriptor.{Descriptor}
use Rattle.srp.specs.declared.Place.{Place}
use Rattle.words.specs.declared.Part.{Part}
use Rattle.words.specs.declared.Slot.{Slot}
use Rattle.words.specs.declared.Head.{Head}
use Rattle.words.specs.Sizes.{port_words}
use Rattle.words.specs.Slots.{slots, place_for_lem}
use Rattle.words.specs.Line.{line}
use Rattle.words.specs.Head.{head_of, CountsFit, TermsFit}

-- the open commands' slots
abbrev pub opens : List ℕ → List Slot
opens l = take (head_of l).held (slots l)

-- one direction, its segments at byte `at` of the store
abbrev pub side_of : List ℕ → ℕ → Part → Side
side_of st at p = record { extent = record { segs = segments_of (take (16 * p.segments) (drop at st)); total = p.total }; transfer = p.transfer }

-- a direction as the message gave it, what stood there at byte `at` of the store
abbrev pub given_of : List ℕ → ℕ → Descriptor → Given
given_of st at d = giving d (take (standing_size_lem d) (drop at st))

-- while a command waits, what its tables are judged by
abbrev pub awaited_of_lem : List ℕ → Slot → Option (Both Given)
awaited_of_lem st c =
    cond c.awaits.waiting
    (some (record { out = given_of st (place_for_lem Out c) c.awaits.out; inn = given_of st (place_for_lem In c) c.awaits.inn }))
    none

abbrev pub open_of : List ℕ → Slot → Open
open_of st c =
    record {
      request = c.request;
      awaits = awaited_of_lem st c;
      planned = c.planned;
      sides = record { out = side_of st (place_for_lem Out c) c.out; inn = side_of st (place_for_lem In c) c.inn };
    }

-- an open port, of its head, its slots, its line and its store
abbrev pub open_port_lem : Head → List Slot → List Place → List ℕ → Port
open_port_lem h cs x st =
    record {
      live = true;
      wanted = h.wanted;
      announced = h.announced;
      held = map (open_of st) (take h.held cs);
      unanswered = h.unanswered;
      terms = h.terms;
      line = x;
    }

-- the port that words are while they say that it is open
abbrev pub shown : List ℕ → List ℕ → Port
shown l st = open_port_lem (head_of l) (slots l) (line l) st

-- the port that words and a store are
abbrev pub view : List ℕ → List ℕ → Port
view l st = cond (head_of l).live (shown l st) closed_port

-- the closed port's words
abbrev pub closed_words : List ℕ
closed_words = replicate port_words 0

-- an open port in the papers' ranges
pub record InRanges (p : Port) : Type 0 where
  pub counts : CountsFit (length p.held) p.wanted p.announced
  pub terms : TermsFit p.terms
