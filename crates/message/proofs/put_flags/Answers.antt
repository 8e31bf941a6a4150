-- `message::put_flags` meets its contract: its six calls write the six bits, the last of them first.
--
use Rattle.srp.specs.Bytes.{bit, put}
use Rattle.srp.specs.Messages.{rspvalid, snsvalid, doover, dounder, diover, diunder}
use Rattle.srp.specs.Writing.{is_over, is_under_lem}
use Rattle.message.proofs.Laying.{field}
use Rattle.message.proofs.put_flags.Goals as goal

pub returns : goal.returns
returns c =
    let a = c.args in
    field rspvalid (bit a.answered) c.put_bit-6.ensures
    (field snsvalid (bit a.sensed) c.put_bit-5.ensures
    (field doover (bit (is_over a.out)) (rw c.is_over-2.ensures at c.put_bit-4.ensures)
    (field dounder (bit (is_under_lem a.out)) (rw c.is_under-2.ensures at c.put_bit-3.ensures)
    (field diover (bit (is_over a.inn)) {s = put diunder (bit (is_under_lem a.inn)) a.buf.now}
    (rw c.is_over.ensures at c.put_bit-2.ensures) (rw c.is_under.ensures at c.put_bit.ensures)))))
