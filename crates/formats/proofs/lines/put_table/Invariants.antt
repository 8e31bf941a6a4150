-- `formats::lines::put_table` meets its contract: the head, and a line for each agreement so far.
use Rattle.std.proofs.Common.{◌≡◌, ◌+◌, ◌*◌}
use Rattle.text.specs.Appending.{Appends}
use Rattle.formats.specs.Table.{line_length}
use Rattle.formats.proofs.Columns.{upto}
use Rattle.formats.proofs.lines.put_table.Given as goal

abbrev pub invariant-loop-formats : goal.invariant-loop-formats
invariant-loop-formats l = record {
  put : Appends l.fn.text 0 (upto l.formats-index) l.text l.at;
  lines : l.at ≡ (l.formats-index + 1) * line_length;
}
