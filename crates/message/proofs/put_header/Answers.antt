-- `message::put_header` meets its contract: its bytes cleared, then the counts, the status, the flags and the start, which are the fields of an SRP_RSP.
--
use mathlib.Core.Path.{refl}
use mathlib.Core.Bool.{not}
use mathlib.Core.List.{[], ◌∷◌}
use lib.Dec.{eqb}
use Rattle.srp.specs.Bytes.{bit}
use Rattle.srp.specs.Messages.{status, rsp}
use Rattle.srp.specs.Writing.{amount}
use Rattle.message.specs.Header.{start_fields, flag_fields, flag_values, count_fields, header_values}
use Rattle.message.proofs.Laying.{laid, field, fields}
use Rattle.message.proofs.put_header.Goals as goal

pub returns : goal.returns
returns c =
    let a = c.args in
    let h = a.h in
    laid rsp (header_values h a.resplen a.senselen) refl a.buf.now _
    (fields start_fields (rsp.code ∷ bit h.solnt ∷ h.delta ∷ h.tag ∷ []) c.put_start.ensures
    (fields flag_fields (flag_values (not (eqb a.resplen 0)) (not (eqb a.senselen 0)) h.out h.inn) c.put_flags.ensures
    (field status h.status c.write8.ensures
    (fields count_fields (amount h.out ∷ amount h.inn ∷ a.senselen ∷ a.resplen ∷ []) c.put_counts.ensures c.clear.ensures))))
