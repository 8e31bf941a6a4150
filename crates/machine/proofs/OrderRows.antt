-- The rows of specs/OrderRows.antt hold of the definitions.
-- Assumes nothing.
use mathlib.Core.Path.{◌≡◌, refl}
use mathlib.Core.List.{map}
use Rattle.machine.specs.OrderRows.{Row, rows, listed_by}

pub rows_hold : map listed_by rows ≡ map (λ (r : Row). r.listed) rows
rows_hold = refl
