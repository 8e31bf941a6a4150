-- What most calls check first, of the words l, whatever the store: the channel is open, and the open command with a tag does not wait for its tables.
use Rattle.std.specs.Prelude.{◌≡◌, true, false, List, ℕ, get_or, Result, Ok, Err, [], ◌∷◌}
use Rattle.std.proofs.Math.Option.{none, some}
use Rattle.srp.specs.Credit.{Port}
use Rattle.srp.specs.Take.{closed}
use Rattle.srp.specs.Calls.{open_checks}
use Rattle.srp.specs.Refusals.{Check, first_of_checks}
use Rattle.srp.specs.declared.Refusal.{Refusal}
use Rattle.words.specs.Slots.{slots, no_slot}
use Rattle.words.specs.Head.{head_of, HeadIs}
use Rattle.words.specs.View.{view}
use Rattle.words.specs.declared.Head.{Head}
use Rattle.state.specs.Changes.{FoundAt}

-- of these checks on the port that the words are, f is the first that hits
abbrev pub Draws : List ℕ → (Port → List Check) → Refusal → Type 0
Draws l checks f = (st : List ℕ) → first_of_checks (checks (view l st)) ≡ some f

-- none of these checks hits
abbrev pub Passes : List ℕ → (Port → List Check) → Type 0
Passes l checks = (st : List ℕ) → first_of_checks (checks (view l st)) ≡ none

-- the channel is open, and h its head
pub record OpenHead (l : List ℕ) (h : Head) : Type 0 where
  pub head : HeadIs l h
  pub live : (head_of l).live ≡ true

abbrev pub OpenIs : List ℕ → Result Head Refusal → Type 0
OpenIs l (Ok h) = OpenHead l h
OpenIs l (Err f) = Draws l (λ p. closed p ∷ []) f

-- slot i has the open command with the tag, which does not wait
pub record ReadyAt (l : List ℕ) (tag i : ℕ) : Type 0 where
  pub found : FoundAt l tag i
  pub ready : (get_or (slots l) i no_slot).awaits.waiting ≡ false

abbrev pub ReadyIs : List ℕ → ℕ → Result ℕ Refusal → Type 0
ReadyIs l tag (Ok i) = ReadyAt l tag i
ReadyIs l tag (Err f) = (head_of l).live ≡ true → Draws l (λ p. open_checks p tag) f
