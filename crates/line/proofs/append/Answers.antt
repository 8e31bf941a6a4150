-- `line::append` meets its contract.
use native.Mathlib.Omega.{arith}
use Rattle.line.proofs.Ring.{joined}
use Rattle.line.proofs.append.Goals as goal

pub returns : goal.returns
returns c =
    let n = c.len-n in
    joined _ _ _ n.result _ n.ensures.0 (omega (arith, n.ensures.0, c.requires.s_bound)) c.put.ensures c.set_len.ensures
