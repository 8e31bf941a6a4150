-- `take::take` meets its contract.
use Rattle.take.proofs.Deciding.{short, refused, answered, hung}
use Rattle.take.proofs.take.Goals as goal

pub returns-then-buf : goal.returns-then-buf
returns-then-buf c =
    let a = c.args in
    rw c.refused.ensures (short a.s.now a.store.now a.buf.now a.msg.now c.if-buf.true)

pub returns-in-Err : goal.returns-in-Err
returns-in-Err c =
    let a = c.args in
    rw c.refused-in-Err.ensures (refused a.s.now a.store.now a.buf.now a.msg.now c.if-buf.false c.in-Err.ensures)

pub returns-in-Ok-take_message : goal.returns-in-Ok-take_message
returns-in-Ok-take_message c =
    let a = c.args in
    answered a.s.now a.store.now a.buf.now a.msg.now c.if-buf.false c.in-Ok.ensures.live c.in-Ok-take_message.ensures

pub returns-in-Err-take_message : goal.returns-in-Err-take_message
returns-in-Err-take_message c =
    let a = c.args in
    hung a.s.now a.store.now a.buf.now a.msg.now c.if-buf.false c.in-Ok.ensures.live c.in-Err-take_message.ensures c.hang_up.ensures
