-- `formats::lines::put_aligned` meets its contract: as many spaces as the number lacks of three digits, and the number.
use mathlib.Core.Path.{sym}
use native.Mathlib.Omega.{arith}
use Rattle.text.proofs.Texts.{then, spelt}
use Rattle.formats.proofs.Columns.{tens}
use Rattle.formats.proofs.lines.put_aligned.Goals as goal

pub returns-then-n-lt100 : goal.returns-then-n-lt100
returns-then-n-lt100 c =
    let z = tens c.args.n c.if-n-lt10.false c.if-n-lt100.true in
    (spelt (sym z.0) (then c.put_byte-end.ensures c.put_decimal-then-n-lt100.ensures), omega (arith, z.1, c.put_byte-end.ensures.long, c.put_decimal-then-n-lt100.ensures.long))
