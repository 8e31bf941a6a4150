-- `cutlist::lines::put_number` meets its contract: the digits, and the space behind them.
use native.Mathlib.Omega.{arith}
use Rattle.text.proofs.Texts.{then}
use Rattle.text.proofs.Digits.{length_hex}
use Rattle.cutlist.proofs.lines.put_number.Goals as goal

pub put_byte-requires : goal.put_byte-requires
put_byte-requires c =
    omega (arith, c.put_hex-end.ensures.long, length_hex c.args.count c.args.n)

pub returns : goal.returns
returns c =
    then c.put_hex-end.ensures c.put_byte.ensures
