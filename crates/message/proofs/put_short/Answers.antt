-- `message::put_short` meets its contract: its bytes cleared, then the start.
--
use mathlib.Core.Path.{refl}
use mathlib.Core.List.{[], ◌∷◌}
use Rattle.srp.specs.Bytes.{bit}
use Rattle.srp.specs.Messages.{solnt, delta, tag}
use Rattle.message.specs.Header.{short_size, start_fields}
use Rattle.message.proofs.Laying.{laid, fields}
use Rattle.message.proofs.put_short.Goals as goal

pub returns : goal.returns
returns c =
    let a = c.args in
    laid (record { code = a.code; size = short_size; fields = solnt ∷ delta ∷ tag ∷ [] }) (bit a.solnt ∷ a.number ∷ a.tag ∷ []) refl a.buf.now _
    (fields start_fields (a.code ∷ bit a.solnt ∷ a.number ∷ a.tag ∷ []) c.put_start.ensures c.clear.ensures)
