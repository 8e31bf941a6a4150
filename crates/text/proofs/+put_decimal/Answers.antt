-- `text::put_decimal` meets its contract: one digit; or those of a tenth of the number, and one more.
use native.Mathlib.Omega.{arith}
use Rattle.text.proofs.Texts.{then, spelt}
use Rattle.text.proofs.Digits.{more_digits}
use Rattle.text.proofs.+put_decimal.Goals as goal

pub returns : goal.returns
returns t c = spelt (more_digits c.args.n (omega arith) (omega arith)) (then c.put_decimal-end.ensures c.put_byte-2.ensures)
