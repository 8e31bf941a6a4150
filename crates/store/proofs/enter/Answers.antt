-- `store::enter` meets its contract.
use borrow.Author.Rules.{rules}
use native.Mathlib.Omega.{arith}
use Rattle.store.proofs.Entering.{slot_left, entered}
use Rattle.store.proofs.enter.Goals as goal

pub returns : goal.returns
returns c =
    let a = c.args in
    let g = c.get_head-h.ensures in
    let k = c.free_place-k in
    rw (c.put-2.ensures, c.put.ensures)
    (entered a.store.now a.out.now a.inn.now a.o a.n a.a (search rules) c.requires.holds c.requires.holds_2 a.s.now k.result (rw g.held at k.ensures)
    (omega (arith, g.held, slot_left a.s.now _ g c.requires.announced_nonzero)) a.r _ g.whole
    c.save.new.s c.save.ensures c.set_counts.new.s c.set_counts.ensures)
