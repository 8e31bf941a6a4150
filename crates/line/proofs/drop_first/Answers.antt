-- `line::drop_first` meets its contract.
use borrow.Author.Rules.{rules}
use Rattle.line.proofs.Ring.{first_dropped}
use native.Mathlib.Omega.{arith}
use Rattle.line.proofs.drop_first.Goals as goal

pub returns : goal.returns
returns c =
    let n = c.len-n in
    first_dropped c.args.s.now (search rules) n.result n.ensures.0 (omega (arith, n.ensures.0, c.requires.bound))
