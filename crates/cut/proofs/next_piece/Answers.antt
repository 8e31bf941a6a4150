-- `cut::next_piece` meets its contract: what proofs/Pieces says of the segment found.
use Rattle.std.proofs.Common.{sym, ◌∙◌, arith}
use Rattle.cut.proofs.Pieces.{empty, behind, here}
use Rattle.cut.proofs.next_piece.Goals as goal

pub returns-then-to-from : goal.returns-then-to-from
returns-then-to-from c =
    let a = c.args in empty a.list.now a.most a.from a.to c.if-to-from.true

pub returns-in_err-location : goal.returns-in_err-location
returns-in_err-location c =
    let a = c.args in
    cc (behind a.list.now a.most a.from a.to (sym c.find_segment.ensures.segment ∙ c.in_err-location.was))

pub returns : goal.returns
returns c =
    let a = c.args in
    here a.list.now a.most a.from a.to (sym c.find_segment.ensures.segment ∙ c.in_ok-location.was) (omega arith) c.read64-address.ensures c.read32.ensures c.min-left.ensures c.min.ensures
