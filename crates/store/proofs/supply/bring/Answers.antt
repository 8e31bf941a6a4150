-- `store::bring` meets its contract.
use borrow.Author.Rules.{rules}
use Rattle.store.proofs.Supplying.{brought}
use Rattle.store.proofs.supply.bring.Goals as goal

pub returns : goal.returns
returns c =
    let a = c.args in
    let k = c.own_place-k in
    rw (c.put-2.ensures, c.put.ensures)
    (brought a.s.now a.store.now a.i c.requires.i_bound (search rules) a.o a.n a.out.now a.inn.now c.requires.holding.0 c.requires.holding.1
    k.result k.ensures c.carry.new.store (rw c.load_place-place.ensures.0 at c.carry.ensures) c.save.new.s
    (rw (c.not_waiting-a.ensures, c.load_request-r.ensures) at c.save.ensures))
