-- `transfer::place_for` meets its contract.
use native.Mathlib.Omega.{arith}
use Rattle.transfer.proofs.place_for.Goals as goal

pub returns-in-Out : goal.returns-in-Out
returns-in-Out c =
    rw c.in-Out.is (omega arith, omega arith)

pub returns-in-In : goal.returns-in-In
returns-in-In c =
    rw c.in-In.is (omega arith, omega arith)
