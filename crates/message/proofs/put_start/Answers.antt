-- `message::put_start` meets its contract: its four calls write the four fields, the last of them first.
--
use Rattle.srp.specs.Bytes.{kind, bit}
use Rattle.srp.specs.Messages.{solnt, delta}
use Rattle.message.proofs.Laying.{field}
use Rattle.message.proofs.put_start.Goals as goal

pub returns : goal.returns
returns c =
    let a = c.args in
    field kind a.code c.write8.ensures
    (field solnt (bit a.solnt) c.put_bit.ensures
    (field delta a.number c.write32.ensures c.write64.ensures))
