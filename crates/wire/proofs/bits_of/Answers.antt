-- `wire::bits_of` meets its contract.
use native.Mathlib.Omega.{arith}
use Rattle.wire.proofs.Masks.{masked}
use Rattle.wire.proofs.bits_of.Goals as goal

pub returns : goal.returns
returns c =
    masked c.args.low c.args.count (omega arith) c.args.b
