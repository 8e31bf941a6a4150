-- Worked inputs, and the lines that are printed of each.
use Rattle.std.specs.Prelude.{◌≡◌, ℕ, List, [], ◌∷◌, ◌++◌}
use Prim.Native.String.{String}
use Rattle.srp.specs.Lists.{All}
use Rattle.text.specs.Codes.{line_feed, codes}
use Rattle.trace.specs.Input.{trace_page}

pub record Row : Type 0 where
  pub input : String
  pub lines : List String

abbrev pub row : String → List String → Row
row t ls = record { input = t; lines = ls }

abbrev pub lines_of : List String → List ℕ
lines_of [] = []
lines_of (l ∷ ls) = codes l ++ (line_feed ∷ lines_of ls)

abbrev pub rows : List Row
rows =
    -- nothing; blank lines and comments
    row ""
    []
    ∷ row "\n \t\r\n# > 41\n  # 41\n"
    []
    -- a message, its digits of either case, with spaces between
    ∷ row "< 81000000 0000000C\t00000000 0000000a\r\n"
    ("< CRED_REQ     000000000000000a                     12                          "
    ∷ [])
    -- the empty message; a last line without its line feed
    ∷ row ">\n\n> 41"
    ("> UNKNOWN                                            0                          "
    ∷ "> UNKNOWN                                            1                          "
    ∷ [])
    -- lines that are none, by their numbers; the program goes on
    ∷ row "4100\n# 41\n-> 41\n> 4x0\n> 410\n<41"
    ("line 1: neither > nor < at its start"
    ∷ "line 3: neither > nor < at its start"
    ∷ "line 4: a character that is no hexadecimal digit"
    ∷ "line 5: an odd number of digits"
    ∷ "< UNKNOWN                                            1                          "
    ∷ [])
    ∷ []

abbrev pub Holds : Row → Type 0
Holds r = trace_page (codes r.input) ≡ lines_of r.lines

abbrev pub EachRow : Type 0
EachRow = All Holds rows
