-- `transfer::next_for` meets its contract.
use mathlib.Core.Path.{◌∙◌, ap}
use mathlib.Core.List.{List}
use Prim.Native.Nat.{◌+◌, ◌-◌, ◌*◌}
use lib.ListN.{take, drop}
use Rattle.srp.specs.Descriptors.{Segment, segments_of}
use Rattle.srp.specs.Cutting.{up_to, next}
use Rattle.words.specs.Head.{head_of}
use Rattle.cut.specs.Walk.{next_wrapped, ended}
use Rattle.cut.proofs.Pieces.{ended_next}
use Rattle.transfer.proofs.Pieces.{next_part}
use Rattle.transfer.proofs.next_for.Goals as goal

pub returns : goal.returns
returns c =
    let a = c.args in
    let at = c.place_for-at.result in
    let q = c.load_boundary.result in
    let T = (head_of a.s.now).terms in
    let t = a.p.transfer in
    let ss : List Segment = segments_of (take (at + a.p.segments * 16 - at) (drop at a.store.now)) in
    c.end_at_boundary.ensures
    ∙ ap (ended q) c.next_piece-piece.ensures
    ∙ ended_next a.maximum q t.at t.end ss c.load_boundary.ensures.1
    ∙ (λ j. next_wrapped (next (up_to (c.requires.maximum_value j) (c.load_boundary.ensures.0 j)) t.at t.end ss))
    ∙ ap next_wrapped (next_part T a.store.now a.place a.d a.p c.place_for-at.ensures.0)
