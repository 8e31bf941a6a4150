-- `message::put_response` meets its contract: the header, and behind it the sense, through the part of the buffer that is as long.
--
use mathlib.Core.Path.{◌≡◌, refl}
use Prim.Native.Nat.{◌+◌, ◌-◌}
use native.Mathlib.Omega.{arith}
use lib.ListN.{length}
use Rattle.srp.specs.Messages.{rsp}
use Rattle.message.specs.Header.{header_values, header_bytes}
use Rattle.message.proofs.Laying.{long, copied_behind}
use Rattle.message.proofs.put_response.Goals as goal

pub returns : goal.returns
returns c =
    let a = c.args in
    let s = a.sense.now in
    let n : rsp.size + length s - rsp.size ≡ length s = omega arith in
    copied_behind (header_bytes a.h 0 (length s)) a.buf.now _ rsp.size (long rsp (header_values a.h 0 (length s)) refl) c.put_header.ensures s _ n _ c.copy_from_slice.ensures.after
