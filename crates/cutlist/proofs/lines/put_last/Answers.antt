-- `cutlist::lines::put_last` meets its contract: the number, and the newline behind it.
use Rattle.text.proofs.Texts.{then}
use Rattle.text.proofs.Digits.{decimal_short}
use native.Mathlib.Omega.{arith}
use Rattle.cutlist.proofs.lines.put_last.Goals as goal

pub put_decimal-end-requires : goal.put_decimal-end-requires
put_decimal-end-requires c =
    omega (arith, decimal_short c.args.n c.requires.0, c.requires.1)

pub put_byte-requires : goal.put_byte-requires
put_byte-requires c =
    omega (arith, c.put_decimal-end.ensures.long, decimal_short c.args.n c.requires.0)

pub returns : goal.returns
returns c =
    then c.put_decimal-end.ensures c.put_byte.ensures
