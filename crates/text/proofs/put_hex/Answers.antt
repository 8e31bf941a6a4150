-- `text::put_hex` meets its contract: the loop's invariant is `Spelling`.
use mathlib.Core.Path.{◌∙◌, ap}
use Prim.Native.Nat.{◌-◌}
use Rattle.srp.specs.Outside.{hex_digit_lem}
use Rattle.text.proofs.Digits.{on, end_of, digit_at}
use Rattle.text.proofs.put_hex.Goals as goal

pub loop-i-preserved : goal.loop-i-preserved
loop-i-preserved c =
    on c.loop-i.invariant c.loop-i-test.true (c.hex_digit.ensures ∙ ap hex_digit_lem (digit_at c.args.n (c.args.count - 1 - c.loop-i.i)))

pub returns : goal.returns
returns c =
    end_of c.loop-i.invariant c.loop-i-test.false
