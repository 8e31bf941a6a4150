-- What cutlist prints, as its functions put it together. `cutlist` of crate srp's specs/Outside.antt is the whole.
use Rattle.std.specs.Prelude.{◌≡◌, List, ◌++◌, ℕ, ◌+◌, ◌-◌, ◌≤◌, ◌<◌, length, take}
use Rattle.srp.specs.Descriptors.{Segment}
use Rattle.srp.specs.Cutting.{Rule, up_to, pieces}
use Rattle.srp.specs.Outside.{operation_lines}
use Rattle.srp.specs.declared.Kind.{Kind}
use Rattle.cutlist.specs.declared.output.Filled.{Filled}

-- a letter, handle, address and length of an operation, a space or the line's end behind each
abbrev pub longest_line : ℕ
longest_line = 2 + 9 + 17 + 4

-- "M = 512"
abbrev pub maximum : ℕ
maximum = 512

abbrev pub rule : Rule
rule = up_to maximum 0

-- the lines from byte `from` on, up to byte `to`
abbrev pub lines_from : Kind → ℕ → ℕ → List Segment → List ℕ
lines_from k from to ss = operation_lines k (pieces (to - from) rule from to ss)

-- the first lines from byte `from` on, one at least: with those that are left they are all
pub record Fills (k : Kind) (from to : ℕ) (ss : List Segment) (text : List ℕ) (f : Filled) : Type 0 where
  pub room : f.len ≤ length text
  pub more : from < f.from
  pub upto : f.from ≤ to
  pub lines : take f.len text ++ lines_from k f.from to ss ≡ lines_from k from to ss
