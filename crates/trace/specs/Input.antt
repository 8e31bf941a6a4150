-- What trace prints: of a line of its input, and of all of it.
use Rattle.std.specs.Prelude.{Option, Some, None, ℕ, suc, ◌+◌, ◌-◌, ◌*◌, ◌%◌, Bool, cond, ◌&&◌, ◌||◌, List, [], ◌∷◌, ◌++◌, length, ◌==◌, nat_le}
use Prim.Native.Char.{code}
use Rattle.srp.specs.Outside.{decimal}
use Rattle.text.specs.Codes.{line_feed, codes}
use Rattle.page.specs.Page.{trace_line}
use Rattle.page.specs.declared.Way.TheVariants.{Towards, From}
use Rattle.trace.specs.declared.reader.Fault.{Fault}
use Rattle.trace.specs.declared.reader.Fault.TheVariants.{NoSign, NoDigit, Odd}
use Rattle.trace.specs.declared.reader.Content.{Content}
use Rattle.trace.specs.declared.reader.Content.TheVariants.{Nothing, Comment, Message, Wrong}

-- ── characters

-- spaces, tabs and carriage returns count nowhere in a line
abbrev pub is_space_lem : ℕ → Bool
is_space_lem c = c == (code " ") || (c == (code "\t") || c == (code "\r"))

abbrev pub unspaced : List ℕ → List ℕ
unspaced [] = []
unspaced (c ∷ cs) = cond (is_space_lem c) (unspaced cs) (c ∷ unspaced cs)

abbrev pub among : ℕ → ℕ → ℕ → Bool
among first last c = nat_le first c && nat_le c last

-- a hexadecimal digit: 0 to 9, A to F, a to f
abbrev pub digit_of_lem : ℕ → Option ℕ
digit_of_lem c =
    cond (among (code "0") (code "9") c) (Some (c - code "0"))
    (cond (among (code "A") (code "F") c) (Some (10 + (c - code "A")))
    (cond (among (code "a") (code "f") c) (Some (10 + (c - code "a")))
    None))

-- '#' starts a comment; '>' and '<' a message towards the port and from it
abbrev pub content_by : ℕ → Content
content_by c =
    cond (c == (code "#")) Comment
    (cond (c == (code ">")) (Message Towards)
    (cond (c == (code "<")) (Message From)
    (Wrong NoSign)))

-- ── a line

abbrev pub valued : Option ℕ → Option (List ℕ) → Option (List ℕ)
valued None vs = None
valued (Some v) None = None
valued (Some v) (Some vs) = Some (v ∷ vs)

-- the values of digits, if each character is one
abbrev pub values_of : List ℕ → Option (List ℕ)
values_of [] = Some []
values_of (c ∷ cs) = valued (digit_of_lem c) (values_of cs)

-- two digits are a byte
abbrev pub pairs : List ℕ → List ℕ
pairs [] = []
pairs (h ∷ []) = []
pairs (h ∷ l ∷ vs) = (h * 16 + l) ∷ pairs vs

-- what is wrong
abbrev pub fault_words : Fault → List ℕ
fault_words NoSign = codes ": neither > nor < at its start"
fault_words NoDigit = codes ": a character that is no hexadecimal digit"
fault_words Odd = codes ": an odd number of digits"

-- with the number of the line
abbrev pub fault_line : ℕ → Fault → List ℕ
fault_line k f = codes "line " ++ (decimal k ++ (fault_words f ++ (line_feed ∷ [])))

-- line number k, by what its first character says and the values of the others
abbrev pub printed_by : ℕ → Content → Option (List ℕ) → List ℕ
printed_by k Nothing vs = []
printed_by k Comment vs = []
printed_by k (Message w) None = fault_line k NoDigit
printed_by k (Message w) (Some vs) = cond (length vs % 2 == 1) (fault_line k Odd) (trace_line w (pairs vs))
printed_by k (Wrong f) vs = fault_line k f

-- line number k without its spaces; a blank one prints nothing
abbrev pub printed : ℕ → List ℕ → List ℕ
printed k [] = []
printed k (c ∷ cs) = printed_by k (content_by c) (values_of cs)

-- ── the input

-- from line number k on, which has t so far; the end of the input ends a line too
abbrev pub page_of : ℕ → List ℕ → List ℕ → List ℕ
page_of k t [] = printed k (unspaced t)
page_of k t (c ∷ cs) = cond (c == line_feed) (printed k (unspaced t) ++ page_of (suc k) [] cs) (page_of k (t ++ (c ∷ [])) cs)

-- what is printed of an input
abbrev pub trace_page : List ℕ → List ℕ
trace_page input = page_of 1 [] input
