-- `wire::with_bits` meets its contract.
use native.Mathlib.Omega.{arith}
use Rattle.wire.proofs.Masks.{joined, joined_small}
use Rattle.wire.proofs.with_bits.Goals as goal

pub overflow_cast-result-3 : goal.overflow_cast-result-3
overflow_cast-result-3 c =
    record { fits = joined_small c.args.low c.args.count (omega arith) c.args.b c.args.v (omega arith) c.requires.1 }

pub returns : goal.returns
returns c =
    joined c.args.low c.args.count (omega arith) c.args.b c.args.v (omega arith) c.requires.1
