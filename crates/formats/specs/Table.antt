-- Document 02, job 14: the table that is printed, a line for each agreement.
use Rattle.std.specs.Prelude.{◌≡◌, cond, List, [], ◌∷◌, ◌++◌, ℕ, ltb}
use Rattle.srp.specs.Outside.{hex, decimal}
use Rattle.text.specs.Codes.{line_feed, codes}
use Rattle.division.specs.Dividing.{division}
use Rattle.division.specs.declared.Division.{Division}

abbrev pub line_length : ℕ
line_length = 30

-- a number below 1,000 in three columns, right-aligned
abbrev pub aligned : ℕ → List ℕ
aligned n = cond (ltb n 10) (codes "  " ++ decimal n) (cond (ltb n 100) (codes " " ++ decimal n) (decimal n))

-- the agreed formats as the four digits of a login's field, and under their heads how many values pass, draw 5 and draw 6
abbrev pub line : ℕ → Division → List ℕ
line formats d =
    hex 4 formats ++ ((codes "      " ++ aligned d.pass) ++ ((codes "     " ++ aligned d.out) ++ ((codes "     " ++ aligned d.inn) ++ (line_feed ∷ []))))

abbrev pub agreement : ℕ → List ℕ
agreement formats = line formats (division formats)

abbrev pub head : List ℕ
head = codes "formats  pass  draw 5  draw 6\n"

-- none agreed, direct alone, indirect alone, both
abbrev pub table : List ℕ
table = head ++ (agreement 0x0000 ++ (agreement 0x0002 ++ (agreement 0x0004 ++ agreement 0x0006)))

-- it is this page
abbrev pub page : List ℕ
page =
    codes
    "formats  pass  draw 5  draw 6\n0000        1     240      15\n0002        4     224      28\n0004        4     224      28\n0006        9     208      39\n"

abbrev pub IsPage : Type 0
IsPage = table ≡ page
