-- `store::carry` meets its contract.
use Prim.Native.Nat.{◌+◌, ◌-◌, ◌*◌}
use native.Mathlib.Omega.{arith}
use borrow.Author.Rules.{rules}
use Rattle.words.specs.Sizes.{place_size}
use Rattle.store.proofs.Supplying.{carried_over}
use Rattle.store.proofs.supply.carry.Goals as goal

pub returns : goal.returns
returns c =
    let a = c.args in
    rw c.copy_within.ensures.after
    (carried_over a.store.now (search rules) a.from a.to c.requires.from_lt_most_slots c.requires.to_lt_most_slots (a.from * place_size + place_size - a.from * place_size) (omega arith))
