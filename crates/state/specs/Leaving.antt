-- Moves that leave the line.
use Rattle.std.specs.Prelude.{◌≡◌, Bool, false, not, List, ℕ, eqb}
use Rattle.srp.specs.Lists.{find, without}
use Rattle.srp.specs.Credit.{Open, has_tag}
use Rattle.srp.specs.Line.{same_place_lem, is_ended}
use Rattle.srp.specs.declared.Place.{Place}
use Rattle.words.specs.Slots.{slots}
use Rattle.words.specs.Head.{head_of}
use Rattle.words.specs.Line.{line}
use Rattle.words.specs.View.{shown}
use Rattle.state.specs.Changes.{ending}
use Rattle.state.specs.declared.Ending.{Ending}
use Rattle.state.specs.declared.Ending.TheVariants.{Finished, Aborted}
use Rattle.state.specs.declared.Leaving.{Leaving}
use Rattle.state.specs.declared.Leaving.TheVariants.{Handed, Ended}

-- the end of a command with another tag
abbrev pub other_tag_lem : Ending → ℕ → Bool
other_tag_lem (Finished t) tag = not (eqb t tag)
other_tag_lem (Aborted k) tag = false

-- whether the open command with the tag ends, whatever the store
abbrev pub CommandEnds : List ℕ → Ending → ℕ → Bool → Type 0
CommandEnds l e tag b = (st : List ℕ) → b ≡ is_ended (ending e) (find (has_tag tag) (shown l st).held)

-- whether the move y leaves, where cs are open
abbrev pub leaves : Leaving → List Open → Place → Bool
leaves (Handed x) cs y = same_place_lem x y
leaves (Ended e) cs y = is_ended (ending e) (find (has_tag y.tag) cs)

abbrev pub MoveLeaves : List ℕ → Leaving → Place → Bool → Type 0
MoveLeaves l which y b = (st : List ℕ) → b ≡ leaves which (shown l st).held y

-- the words l changed to l': those moves left the line, the slots and the head stay
pub record Leaves (which : Leaving) (l l' : List ℕ) : Type 0 where
  pub slots : slots l' ≡ slots l
  pub head : head_of l' ≡ head_of l
  pub line : (st : List ℕ) → line l' ≡ without (leaves which (shown l st).held) (line l)
