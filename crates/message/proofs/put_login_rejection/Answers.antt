-- `message::put_login_rejection` meets its contract: its bytes cleared, then the fields, the last of them first.
--
use mathlib.Core.Path.{refl}
use mathlib.Core.List.{[], ◌∷◌}
use Rattle.srp.specs.Bytes.{kind}
use Rattle.srp.specs.Messages.{reason, tag, format_bits, login_rej}
use Rattle.message.proofs.Laying.{laid, field}
use Rattle.message.proofs.put_login_rejection.Goals as goal

pub returns : goal.returns
returns c =
    let a = c.args in
    laid login_rej (a.reason ∷ a.tag ∷ a.formats ∷ []) refl a.buf.now _
    (field kind login_rej.code c.write8.ensures
    (field reason a.reason c.write32.ensures
    (field tag a.tag c.write64.ensures
    (field format_bits a.formats c.write16.ensures c.clear.ensures))))
