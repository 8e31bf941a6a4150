-- `cut::cut` meets its contract.
use Rattle.std.proofs.Common.{◌≡◌, false, sym, ap, ◌∙◌, arith, Ok, Option}
use Rattle.srp.specs.declared.Piece.{Piece}
use Rattle.srp.specs.Descriptors.{segments_of}
use Rattle.srp.specs.Cutting.{bad_boundary}
use Rattle.std.specs.Result.{result_ok}
use Rattle.cut.specs.Walk.{ended}
use Rattle.cut.proofs.Pieces.{ended_next}
use Rattle.cut.proofs.Refusing.{next_is}
use Rattle.cut.proofs.cut.Goals as goal

pub returns : goal.returns
returns c =
    let a = c.args in
    let q : bad_boundary a.q ≡ false = sym c.is_bad.ensures ∙ c.if-is_bad.false in
    ap (λ (p : Option Piece). Ok p) (c.end_at_boundary.ensures ∙ ap (ended a.q) c.next_piece.ensures ∙ ended_next a.most a.q a.handed c.min-to.result (segments_of a.list.now) q)
    ∙ next_is a.list.now a.most a.q a.required a.handed c.if-most-eq0.false c.if-most-gt-LARGEST_PIECE.false q c.if-list-ne0.false c.if-list-gt-LONGEST_LIST.false
    (sym c.sum.ensures.0 ∙ c.ok_or.ensures.ok_part ∙ ap result_ok c.in_ok-total.was) (omega arith) c.min-to.ensures c.if-to-handed.false
