-- The rows of specs/ListRows.antt hold of the definitions.
-- Assumes nothing.
use mathlib.Core.Path.{◌≡◌, refl}
use mathlib.Core.List.{List, map}
use Rattle.srp.specs.Credit.{Port}
use Rattle.srp.specs.ListRows.{rows, after}
use Rattle.srp.specs.declared.Record.{Record}

pub rows_hold : map after rows ≡ map (λ (r : Port × (List Record × List Record)). r.1.1) rows
rows_hold = refl
