-- `formats::lines::put_count` meets its contract: the gap, and the number behind it.
use native.Mathlib.Omega.{arith}
use Rattle.text.proofs.Texts.{then}
use Rattle.formats.proofs.lines.put_count.Goals as goal

pub returns : goal.returns
returns c =
    (then c.put_bytes-end.ensures c.put_aligned.ensures.0, omega (arith, c.put_bytes-end.ensures.long, c.put_aligned.ensures.1))
