-- `message::put_answer` meets its contract: the header, and behind it the code as a number of four bytes.
--
use mathlib.Core.Path.{refl, ◌∙◌}
use native.Mathlib.Omega.{arith}
use Rattle.srp.specs.Messages.{rsp}
use Rattle.srp.specs.declared.Residual.TheVariants.{Even}
use Rattle.message.specs.declared.Header.{Header}
use Rattle.message.specs.Header.{response_size, header_values, header_bytes}
use Rattle.message.proofs.Laying.{long, byte_behind}
use Rattle.message.proofs.put_answer.Goals as goal

pub returns : goal.returns
returns c =
    let a = c.args in
    let h : Header = record { solnt = a.solnt; delta = a.delta; tag = a.tag; status = 0; out = Even; inn = Even } in
    c.write32.ensures ∙ byte_behind (header_bytes h response_size 0) a.buf.now _ rsp.size (long rsp (header_values h response_size 0) refl) c.put_header.ensures a.code (omega arith)
