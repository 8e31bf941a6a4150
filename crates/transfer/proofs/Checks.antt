-- What move comes to under its checks 31 and 32.
-- Assumes nothing.
use mathlib.Core.Path.{◌≡◌, refl}
use mathlib.Core.Bool.{true, false}
use mathlib.Core.Option.{some}
use Prim.Native.Nat.{ℕ}
use lib.Dec.{ltb}
use Rattle.std.specs.Prelude.{Err}
use Rattle.srp.specs.Lists.{find}
use Rattle.srp.specs.Credit.{movable, Open, Port, has_tag}
use Rattle.srp.specs.Both.{of}
use Rattle.srp.specs.Take.{silent}
use Rattle.srp.specs.Tables.{is_waiting}
use Rattle.srp.specs.Calls.{has_pieces, move_outcome, move_def}
use Rattle.srp.specs.declared.Direction.{Direction}
use Rattle.srp.specs.declared.Refusal.TheVariants.{Offset, Unfinished}

module _ (p : Port) (tag : ℕ) (d : Direction) (offset count : ℕ) where
  module _ (live : p.live ≡ true) where
    module _ (c : Open) (found : find (has_tag tag) p.held ≡ some c) where
      module _ (ready : is_waiting (some c) ≡ false) where
        module _ (planned : c.planned ≡ true) where
          -- 31
          pub move_beyond : ltb (movable (of d c.sides)) offset ≡ true → move_def p tag d offset count ≡ silent p (Err Offset)
          move_beyond e = rw (live, found, ready, planned, e) refl

          module _ (low : ltb (movable (of d c.sides)) offset ≡ false) where
            -- 32
            pub move_unfinished : has_pieces (of d c.sides) ≡ true → move_def p tag d offset count ≡ silent p (Err Unfinished)
            move_unfinished e = rw (live, found, ready, planned, low, e) refl

            -- none of them
            pub move_passed : has_pieces (of d c.sides) ≡ false → move_def p tag d offset count ≡ move_outcome p tag d offset count
            move_passed e = rw (live, found, ready, planned, low, e) refl
