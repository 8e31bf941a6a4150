-- `formats::lines::put_line` meets its contract: its five parts, one behind the other.
use native.Mathlib.Omega.{arith}
use Rattle.text.proofs.Texts.{then}
use Rattle.formats.proofs.lines.put_line.Goals as goal

pub returns : goal.returns
returns c = (
  then c.put_hex-pass_at.ensures (then c.put_count-out_at.ensures.0 (then c.put_count-in_at.ensures.0 (then c.put_count-end.ensures.0 c.put_byte.ensures))),
  omega (arith, c.put_hex-pass_at.ensures.long, c.put_count-out_at.ensures.1, c.put_count-in_at.ensures.1, c.put_count-end.ensures.1, c.put_byte.ensures.long),
)
