-- `credit::add` meets its contract.
use mathlib.Core.Path.{refl, sym, ◌∙◌, ap}
use mathlib.Core.List.{[], ◌∷◌}
use Prim.Native.Nat.{◌+◌}
use native.Mathlib.Omega.{arith}
use lib.Dec.{eqb}
use lib.ListN.{drop}
use borrow.Author.Tests.{lt-ltb, le-ltb}
use Rattle.srp.specs.Limits.{most_buffers}
use Rattle.srp.specs.Credit.{with_wanted}
use Rattle.srp.specs.Take.{closed}
use Rattle.srp.specs.Calls.{add_checks, add_outcome}
use Rattle.srp.specs.declared.Refusal.TheVariants.{Argument}
use Rattle.words.specs.View.{view}
use Rattle.state.proofs.Promises.{performed, altered_view}
use Rattle.state.proofs.Drawn.{drawn_first, hands_on, refuses, performs}
use Rattle.credit.proofs.Cases.{wants, adding}
use Rattle.credit.proofs.add.Goals as goal

pub returns-in_err-wanted : goal.returns-in_err-wanted
returns-in_err-wanted c =
    let a = c.args in
    λ st. let p = view a.s.now st in let checks = add_checks p a.k in
    hands_on a.s.now st (add_outcome p a.k) checks c.from_residual.result c.from_residual.ensures.1
    (drawn_first (closed p ∷ (eqb a.k 0, Argument) ∷ []) (drop 2 checks) (c.in_err-wanted.ensures st))

pub returns-then-room-k : goal.returns-then-room-k
returns-then-room-k c =
    let a = c.args in
    let w = c.in_ok-wanted.field-0.wanted in
    let C = c.in_ok-wanted.ensures in
    λ st. refuses a.s.now st (add_outcome (view a.s.now st) a.k) (adding C st ∙ rw (lt-ltb most_buffers (w + a.k) (omega (arith, c.if-room-k.true, C.most))) refl)

pub returns : goal.returns
returns c =
    let a = c.args in
    let l = a.s.now in
    let w = c.in_ok-wanted.field-0.wanted in
    let C = c.in_ok-wanted.ensures in
    λ st. performs l st c.set_wanted.new.s st (add_outcome (view l st) a.k) (adding C st ∙ rw (le-ltb most_buffers (w + a.k) (omega (arith, c.if-room-k.false, C.most))) refl)
    (performed refl (altered_view l c.set_wanted.new.s st C.live c.set_wanted.ensures ∙ ap (λ n. with_wanted (view l st) (n + a.k)) (sym (wants C st))) refl refl)
