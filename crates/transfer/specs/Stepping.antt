-- What plan, move and step promise.
use Rattle.std.specs.Prelude.{◌≡◌, Bool, List, ℕ, ◌+◌, get_or, Result, Ok}
use Rattle.std.proofs.Math.Option.{none, some}
use Rattle.srp.specs.Both.{of}
use Rattle.srp.specs.Credit.{Side, Open, on_side}
use Rattle.srp.specs.Calls.{has_pieces, handing, next_in, wrapped, plan_def, move_def, step_outcome, step_def}
use Rattle.srp.specs.declared.Direction.{Direction}
use Rattle.srp.specs.declared.Piece.{Piece}
use Rattle.srp.specs.declared.Reply.{Reply}
use Rattle.srp.specs.declared.Reply.TheVariants.{Done}
use Rattle.words.specs.Slots.{slots, no_slot}
use Rattle.words.specs.Head.{head_of, SlotChanged}
use Rattle.words.specs.View.{open_of, view}
use Rattle.words.specs.declared.Slot.{Slot}
use Rattle.state.specs.Promises.{RepliesAs, RepliesWith}
use Rattle.transfer.specs.declared.Handed.{Handed}
use Rattle.transfer.specs.declared.Handed.TheVariants.{Nothing, One}
use Rattle.srp.specs.declared.Refusal.{Refusal}

-- ── promises: l and l' are the port's words before and after the call, st is the store, which stays

abbrev pub Plans : (l l' : List ℕ) (tag out inn : ℕ) → Result Reply Refusal → Type 0
Plans l l' tag out inn r = RepliesWith l l' r (λ p. plan_def p tag out inn)

abbrev pub Names : (l l' : List ℕ) (tag : ℕ) (d : Direction) (offset count : ℕ) → Result Reply Refusal → Type 0
Names l l' tag d offset count r = RepliesWith l l' r (λ p. move_def p tag d offset count)

-- a step that says done alters no word
pub record Steps (l l' st : List ℕ) (tag : ℕ) (d : Direction) (r : Result Reply Refusal) : Type 0 where
  pub replies : RepliesAs l st l' st r (step_def (view l st) tag d)
  pub done : (n : ℕ) → r ≡ Ok (Done n) → l' ≡ l

-- of a planned command
pub record StepsPlanned (l l' st : List ℕ) (tag : ℕ) (d : Direction) (r : Result Reply Refusal) : Type 0 where
  pub replies : RepliesAs l st l' st r (step_outcome (view l st) tag d)
  pub done : (n : ℕ) → r ≡ Ok (Done n) → l' ≡ l

-- ── a piece handed out, by a step or a turn

-- the command in slot i, and a direction of it
abbrev pub command_at : (l st : List ℕ) → ℕ → Open
command_at l st i = open_of st (get_or (slots l) i no_slot)

abbrev pub side_at : (l st : List ℕ) → ℕ → Direction → Side
side_at l st i d = of d (command_at l st i).sides

-- none is left, and no word is altered
pub record HandsNone (l l' st : List ℕ) (i : ℕ) (d : Direction) (n : ℕ) : Type 0 where
  pub next : next_in (head_of l).terms (side_at l st i d) ≡ none
  pub number : n ≡ (side_at l st i d).transfer.number
  pub same : l' ≡ l

-- `piece` is the next: the command changes as the definitions have it, and nothing else
pub record HandsOne (l l' st : List ℕ) (i : ℕ) (d : Direction) (o : Piece) (n : ℕ) (more : Bool) : Type 0 where
  pub piece : Piece
  pub slot : Slot
  pub next : next_in (head_of l).terms (side_at l st i d) ≡ some piece
  pub said : o ≡ wrapped piece
  pub number : n ≡ (side_at l st i d).transfer.number + 1
  pub changed : SlotChanged l l' i (λ _. slot)
  pub moved : open_of st slot ≡ on_side d (handing piece.len) (command_at l st i)
  pub left : more ≡ has_pieces (handing piece.len (side_at l st i d))

abbrev pub HandsOut : (l l' st : List ℕ) → ℕ → Direction → Handed → Type 0
HandsOut l l' st i d (Nothing n) = HandsNone l l' st i d n
HandsOut l l' st i d (One o n more) = HandsOne l l' st i d o n more
