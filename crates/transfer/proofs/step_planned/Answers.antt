-- `transfer::step_planned` meets its contract.
use Rattle.transfer.specs.Stepping.{HandsOne}
use Rattle.transfer.proofs.Handing.{more_left, last_handed}
use Rattle.transfer.proofs.step_planned.Goals as goal

pub returns-then-more : goal.returns-then-more
returns-then-more c =
    let a = c.args in
    let H : HandsOne a.s.now c.hand_out.new.s a.store.now a.i a.d c.in-One.piece c.in-One.n c.in-One.more = rw c.in-One.is at c.hand_out.ensures in
    more_left c.requires.found_at c.requires.s_value a.store.now a.d H c.if-more.true c.from.ensures

pub returns-else-more : goal.returns-else-more
returns-else-more c =
    let a = c.args in
    let H : HandsOne a.s.now c.hand_out.new.s a.store.now a.i a.d c.in-One.piece c.in-One.n c.in-One.more = rw c.in-One.is at c.hand_out.ensures in
    last_handed c.requires.found_at c.requires.s_value a.store.now a.d H c.if-more.false c.leave.ensures c.from.ensures
