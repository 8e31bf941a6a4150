-- `formats::lines::put_agreement` meets its contract: these formats are counted, and their line is put.
use Rattle.division.proofs.Counting.{at_most}
use Rattle.formats.proofs.Columns.{counted, the_counts}
use Rattle.formats.proofs.lines.put_agreement.Goals as goal

pub unwrap-requires : goal.unwrap-requires
unwrap-requires c =
    rw (counted c.args.formats c.requires.formats_value c.divide.ensures)

pub put_line-requires : goal.put_line-requires
put_line-requires c =
    let m = at_most c.args.formats in
    rw (the_counts c.args.formats c.requires.formats_value c.divide.ensures c.unwrap.ensures) (m.0, m.1, m.2, c.requires.line_length_in_bounds)

pub returns : goal.returns
returns c =
    (rw (the_counts c.args.formats c.requires.formats_value c.divide.ensures c.unwrap.ensures) at c.put_line.ensures.0, c.put_line.ensures.1)
