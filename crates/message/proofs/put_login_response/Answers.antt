-- `message::put_login_response` meets its contract: its bytes cleared, then the fields, the last of them first.
--
use mathlib.Core.Path.{refl}
use mathlib.Core.List.{[], ◌∷◌}
use Rattle.srp.specs.Bytes.{kind, bit}
use Rattle.srp.specs.Limits.{buffer_size}
use Rattle.srp.specs.Messages.{delta, tag, longest_taken, longest_written, format_bits, solntsup, login_rsp}
use Rattle.message.proofs.Laying.{laid, field}
use Rattle.message.proofs.put_login_response.Goals as goal

pub returns : goal.returns
returns c =
    let a = c.args in
    laid login_rsp (a.buffers ∷ a.tag ∷ a.longest ∷ buffer_size ∷ a.formats ∷ bit a.solicited ∷ []) refl a.buf.now _
    (field kind login_rsp.code c.write8.ensures
    (field delta a.buffers c.write32-3.ensures
    (field tag a.tag c.write64.ensures
    (field longest_taken a.longest c.write32-2.ensures
    (field longest_written buffer_size c.write32.ensures
    (field format_bits a.formats c.write16.ensures
    (field solntsup (bit a.solicited) c.put_bit.ensures c.clear.ensures)))))))
