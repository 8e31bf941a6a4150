-- A text as the bytes that are written for it.
use Rattle.std.specs.Prelude.{List, [], ◌∷◌, ℕ}
use Prim.Native.Char.{code}
use Prim.Native.String.{String, [] as nothing, ◌∷◌ as ◌before◌}

abbrev pub line_feed : ℕ
line_feed = code "\n"

abbrev pub codes : String → List ℕ
codes nothing = []
codes (c before s) = code c ∷ codes s
