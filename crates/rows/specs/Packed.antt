-- The strings of a packed row lie one behind the other.
use Rattle.std.specs.Prelude.{List, [], ◌∷◌, ◌++◌, ℕ}
use Rattle.std.specs.Borrow.{Bor}
use Rattle.rows.specs.declared.row.Row.{Row}

-- the bytes of strings
abbrev pub joined : List (Bor (List ℕ)) → List ℕ
joined [] = []
joined (s ∷ rest) = s.now ++ joined rest

-- the bytes of a row: its header, and its strings
abbrev pub packed : Row → List ℕ
packed r = r.header.now ++ joined r.strings
