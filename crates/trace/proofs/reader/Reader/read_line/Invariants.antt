-- `trace::reader::Reader::read_line` meets its contract: what is printed stays the same, whatever follows the part.
use Rattle.std.proofs.Common.{◌≡◌, ℕ, ◌≤◌, List, ◌++◌, length, drop}
use Rattle.trace.specs.Reading.{page_from}
use Rattle.trace.proofs.reader.Reader.read_line.Given as goal

abbrev pub invariant-loop-i : goal.invariant-loop-i
invariant-loop-i l = record {
  upto : l.i ≤ length l.input;
  page : (rest : List ℕ) → page_from l.initial.self l.initial.start (l.input ++ rest) ≡ page_from l.self l.start (drop l.i l.input ++ rest);
}
