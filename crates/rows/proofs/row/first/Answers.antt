-- `rows::row::first` meets its contract: the header and the five strings were split off one after the other.
use mathlib.Core.Path.{refl, sym}
use mathlib.Core.List.{[]}
use Rattle.rows.proofs.Packed.{split, behind}
use Rattle.rows.proofs.row.first.Goals as goal

pub returns-clause-packed : goal.returns-clause-packed
returns-clause-packed c =
    let h = c.in_ok-header.ensures.cases in
    let a = c.in_ok-a.ensures.cases in
    let b = c.in_ok-b.ensures.cases in
    let d = c.in_ok-c.ensures.cases in
    let e = c.in_ok-d.ensures.cases in
    let f = c.in_ok-e.ensures.cases in
    sym (behind _ _ _
    (behind _ _ _ (behind _ _ _ (behind _ _ _ (behind _ _ _ (behind c.in_ok-e.e.now [] c.in_ok-e.behind.now refl (split _ f.1 f.2)) (split _ e.1 e.2)) (split _ d.1 d.2)) (split _ b.1 b.2)) (split _ a.1 a.2))
    (split 34 h.0 h.1))
