-- Whether an open command waits for its tables, and what plan, move, step and finish then draw.
-- Assumes nothing.
use mathlib.Core.Path.{◌≡◌, refl}
use mathlib.Core.Bool.{Bool, true, false, cond}
use mathlib.Core.List.{List, ◌++◌}
use mathlib.Core.Option.{none, some}
use Prim.Native.Nat.{ℕ}
use lib.ListN.{get_or}
use Rattle.srp.specs.Lists.{is_some}
use Rattle.srp.specs.Refusals.{Check, first_of_checks}
use Rattle.srp.specs.Tables.{is_waiting}
use Rattle.srp.specs.Calls.{open_checks}
use Rattle.srp.specs.declared.Refusal.TheVariants.{Waiting}
use Rattle.words.specs.Slots.{slots, no_slot}
use Rattle.words.specs.Head.{head_of}
use Rattle.words.specs.View.{open_of, view}
use Rattle.words.specs.declared.Slot.{Slot}
use Rattle.state.specs.Changes.{FoundAt}
use Rattle.state.proofs.Promises.{found_first}

some_under : {A : Type 0} (x : A) (b : Bool) → is_some (cond b (some x) none) ≡ b
some_under x true = refl
some_under x false = refl

-- a command waits just where the word of its slot says so, whatever the store
pub waits_as : (st : List ℕ) (c : Slot) → is_waiting (some (open_of st c)) ≡ c.awaits.waiting
waits_as st c = some_under _ c.awaits.waiting

module _ {l : List ℕ} {tag i : ℕ} (F : FoundAt l tag i) (e : (head_of l).live ≡ true) (st : List ℕ) where
  -- the command found draws 33 where it waits, and where it does not what the further checks draw
  pub found_draws : {b : Bool} → (get_or (slots l) i no_slot).awaits.waiting ≡ b → (rest : List Check)
      → first_of_checks (open_checks (view l st) tag ++ rest) ≡ cond b (some Waiting) (first_of_checks rest)
  found_draws w rest = rw (found_first F e st, waits_as st (get_or (slots l) i no_slot), w) refl
