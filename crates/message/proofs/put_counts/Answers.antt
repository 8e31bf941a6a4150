-- `message::put_counts` meets its contract: its four calls write the four fields, the last of them first.
--
use Rattle.srp.specs.Messages.{out_residual, in_residual, sense_length}
use Rattle.srp.specs.Writing.{amount}
use Rattle.message.proofs.Laying.{field}
use Rattle.message.proofs.put_counts.Goals as goal

pub returns : goal.returns
returns c =
    let a = c.args in
    field out_residual (amount a.out) (rw c.amount_of-2.ensures at c.write32-4.ensures)
    (field in_residual (amount a.inn) (rw c.amount_of.ensures at c.write32-3.ensures)
    (field sense_length a.senselen c.write32-2.ensures c.write32.ensures))
