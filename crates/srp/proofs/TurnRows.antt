-- The rows of specs/TurnRows.antt hold of the definitions.
-- Assumes nothing.
use mathlib.Core.Path.{◌≡◌, refl}
use mathlib.Core.List.{map}
use Rattle.srp.specs.Requests.{read_message_lem}
use Rattle.srp.specs.Cutting.{longest_at_lem, bad_boundary}
use Rattle.srp.specs.Rows.{found, expected}
use Rattle.srp.specs.TurnRows.{rows}

pub rows_hold : map found rows ≡ map expected rows
unfolding read_message_lem longest_at_lem bad_boundary
rows_hold = refl
