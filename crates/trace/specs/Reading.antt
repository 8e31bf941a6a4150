-- The same, as the code reads it: character by character, with the first 40 bytes of a message, `st`, and its length.
use Rattle.std.specs.Prelude.{Option, Some, None, ◌≡◌, ℕ, ◌+◌, ◌-◌, ◌*◌, ◌/◌, ◌%◌, ◌^◌, ◌<◌, ◌≤◌, min, cond, List, [], ◌∷◌, ◌++◌, length, take, drop, ◌==◌, slice_set}
use Rattle.page.specs.Types.{most_read}
use Rattle.page.specs.Page.{line_from}
use Rattle.page.specs.declared.Way.{Way}
use Rattle.text.specs.Codes.{line_feed}
use Rattle.trace.specs.Input.{is_space_lem, digit_of_lem, content_by, fault_line, trace_page}
use Rattle.trace.specs.declared.reader.Fault.TheVariants.{NoDigit, Odd}
use Rattle.trace.specs.declared.reader.Content.{Content}
use Rattle.trace.specs.declared.reader.Content.TheVariants.{Nothing, Comment, Message, Wrong}
use Rattle.trace.specs.declared.reader.Reader.{Reader}

-- ── a line as far as it was read

-- nothing yet of line number k
abbrev pub fresh : ℕ → Reader
fresh k = record { number = k; content = Nothing; digits = 0; last = 0 }

abbrev pub followed : Reader → Reader
followed r = fresh ((r.number + 1) % 2 ^ 64)

abbrev pub with_content_lem : Content → Reader → Reader
with_content_lem c r = record { number = r.number; content = c; digits = r.digits; last = r.last }

-- the byte that is read, with one digit more
abbrev pub byte_with_lem : Reader → ℕ → ℕ
byte_with_lem r v = cond (r.digits % 2 == 0) v (r.last % 16 * 16 + v % 16)

abbrev pub with_digit_lem : Option ℕ → Reader → Reader
with_digit_lem None r = with_content_lem (Wrong NoDigit) r
with_digit_lem (Some v) r = record { number = r.number; content = r.content; digits = (r.digits + 1) % 2 ^ 64; last = byte_with_lem r v }

-- one character more, by what the line is
abbrev pub onward : Content → Reader → ℕ → Reader
onward Nothing r c = with_content_lem (content_by c) r
onward Comment r c = r
onward (Message w) r c = with_digit_lem (digit_of_lem c) r
onward (Wrong f) r c = r

abbrev pub turned : Reader → ℕ → Reader
turned r c = cond (is_space_lem c) r (onward r.content r c)

-- the byte that is read among the first, if it is one of them
abbrev pub kept : Reader → List ℕ → List ℕ
kept r st = cond (r.digits == 0) st (slice_set st ((r.digits - 1) / 2) r.last)

-- ── what is printed

abbrev pub message_end : Reader → Way → List ℕ → List ℕ
message_end r w st = cond (r.digits % 2 == 1) (fault_line r.number Odd) (line_from w (r.digits / 2) (take (min (r.digits / 2) most_read) st))

abbrev pub end_by : Content → Reader → List ℕ → List ℕ
end_by Nothing r st = []
end_by Comment r st = []
end_by (Message w) r st = message_end r w st
end_by (Wrong f) r st = fault_line r.number f

-- where the line ends
abbrev pub line_end : Reader → List ℕ → List ℕ
line_end r st = end_by r.content r st

-- the words of a fault, and a whole line, with a number of 20 digits
abbrev pub longest_words : ℕ
longest_words = 42

abbrev pub longest : ℕ
longest = 96

-- of the input cs, behind what was read
abbrev pub page_from : Reader → List ℕ → List ℕ → List ℕ
page_from r st [] = line_end r st
page_from r st (c ∷ cs) =
    cond (c == line_feed) (line_end r st ++ page_from (followed r) st cs) (page_from (turned r c) (kept (turned r c) st) cs)

-- a part of the input was read to its end, and no line ended: what is printed is the same, whatever follows
pub record ReadsAll (input : List ℕ) (r : Reader) (st : List ℕ) (r' : Reader) (st' : List ℕ) : Type 0 where
  pub page : (rest : List ℕ) → page_from r st (input ++ rest) ≡ page_from r' st' rest

-- or to the end of a line, behind which `left` is left of the part
pub record ReadsLine (input : List ℕ) (r : Reader) (st left : List ℕ) (r' : Reader) (st' : List ℕ) : Type 0 where
  pub at : ℕ
  pub on : 0 < at
  pub upto : at ≤ length input
  pub behind : left ≡ drop at input
  pub page : (rest : List ℕ) → page_from r st (input ++ rest) ≡ line_end r' st' ++ page_from (followed r') st' (left ++ rest)

-- ── the whole

-- what is printed so is what `trace_page` says
abbrev pub Prints : Type 0
Prints = (input st : List ℕ) → length st ≡ most_read → length input + 1 < 2 ^ 64 → page_from (fresh 1) st input ≡ trace_page input
