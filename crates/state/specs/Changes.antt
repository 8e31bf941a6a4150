-- What the changes of an open port's words do to the port that they show.
use Rattle.std.specs.Prelude.{◌≡◌, Bool, false, List, map, Option, Some, None, ℕ, ◌+◌, ◌-◌, ◌<◌, eqb, take, get_or, set}
use Rattle.std.proofs.Math.Option.{none, some}
use Rattle.srp.specs.Lists.{find, change, without}
use Rattle.srp.specs.Credit.{Open, Port, due, with_held, has_tag}
use Rattle.srp.specs.Take.{aborts, leaving}
use Rattle.srp.specs.declared.Request.{Request}
use Rattle.words.specs.Sizes.{most_slots}
use Rattle.words.specs.Slots.{slots, no_slot}
use Rattle.words.specs.Head.{head_of}
use Rattle.words.specs.View.{opens, open_of, shown}
use Rattle.words.specs.declared.Slot.{Slot}
use Rattle.state.specs.declared.Ending.{Ending}
use Rattle.state.specs.declared.Ending.TheVariants.{Finished, Aborted}

-- ── commands that end

-- whether the command that came as a request ends
abbrev pub ends : Ending → Request → Bool
ends (Finished tag) r = eqb tag r.tag
ends (Aborted t) r = aborts t r

abbrev pub ending : Ending → Open → Bool
ending e c = ends e c.request

abbrev pub over : Ending → Slot → Bool
over e c = ends e c.request

-- none of the first i open commands ends
abbrev pub NoneEnds : Ending → List ℕ → ℕ → Type 0
NoneEnds e l i = (j : ℕ) → j < i → over e (get_or (opens l) j no_slot) ≡ false

-- ── the search for a tag

-- slot i has the open command with the tag, whatever the store
pub record FoundAt (l : List ℕ) (tag i : ℕ) : Type 0 where
  pub inside : i < (head_of l).held
  pub small : i < most_slots
  pub tagged : (get_or (slots l) i no_slot).request.tag ≡ tag
  -- the commands before it have other tags
  pub others : NoneEnds (Finished tag) l i
  pub first : (st : List ℕ) → find (has_tag tag) (shown l st).held ≡ some (open_of st (get_or (slots l) i no_slot))
  -- a change of that command is a change of its slot
  pub changes : (st : List ℕ) (g : Open → Open) (c : Slot) → open_of st c ≡ g (open_of st (get_or (slots l) i no_slot))
      → change (has_tag tag) g (shown l st).held ≡ map (open_of st) (take (head_of l).held (set (slots l) i c))

abbrev pub FoundIs : List ℕ → ℕ → Option ℕ → Type 0
FoundIs l tag (Some i) = FoundAt l tag i
FoundIs l tag None = (st : List ℕ) → find (has_tag tag) (shown l st).held ≡ none

-- ── changes

-- the words l changed to l': the channel is open or closed as before, and the port that they show is changed by f
pub record Alters (l l' : List ℕ) (f : Port → Port) : Type 0 where
  pub live : (head_of l').live ≡ (head_of l).live
  pub port : (st : List ℕ) → shown l' st ≡ f (shown l st)

-- the commands that end out of their slots; and their moves out of the line too
abbrev pub without_slots : Ending → Port → Port
without_slots e p = with_held p p.announced (without (ending e) p.held)

abbrev pub without_ended : Ending → Port → Port
without_ended e p = leaving p p.announced (ending e)

-- so many announced buffers less
abbrev pub after_use : ℕ → Port → Port
after_use n p = with_held p (p.announced - n) p.held

-- delta is due once so many announced buffers are used, and is announced
pub record Settled (used delta : ℕ) (l l' : List ℕ) : Type 0 where
  pub live : (head_of l').live ≡ (head_of l).live
  pub delta_is : (st : List ℕ) → delta ≡ due (after_use used (shown l st))
  pub port : (st : List ℕ) → shown l' st ≡ with_held (shown l st) ((shown l st).announced - used + delta) (shown l st).held
