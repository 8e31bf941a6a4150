-- `tables::supply` meets its contract.
use mathlib.Core.Path.{◌≡◌, ◌∙◌, subst}
use native.Mathlib.Omega.{arith}
use Rattle.std.specs.Prelude.{None}
use Rattle.srp.specs.declared.Refusal.TheVariants.{TagNotOpen}
use Rattle.words.specs.View.{view}
use Rattle.words.proofs.Ports.{view_live}
use Rattle.state.specs.Changes.{FoundIs}
use Rattle.state.proofs.Promises.{tag_free}
use Rattle.state.proofs.Drawn.{handed}
use Rattle.tables.specs.Bringing.{tables, answered_by, Brings}
use Rattle.tables.proofs.Judging.{tables_1, tables_24}
use Rattle.tables.proofs.Judged.{refuses, refuses_closed}
use Rattle.tables.proofs.supply.Goals as goal

pub returns-then-buf : goal.returns-then-buf
returns-then-buf c =
    let a = c.args in
    refuses (tables_1 (view a.s.now a.store.now) _ a.tag (tables a.out.now a.inn.now) c.if-buf.true)

pub returns-in_err-open_head : goal.returns-in_err-open_head
returns-in_err-open_head c =
    refuses_closed c.if-buf.false c.in_err-open_head.ensures c.from_residual.result c.from_residual.ensures.1

pub returns-in_err-i : goal.returns-in_err-i
returns-in_err-i c =
    let a = c.args in
    let live = c.in_ok-open_head.ensures.live in
    let n : c.find.result ≡ None = grind arith in
    let f : c.in_err-i.field-0.0 ≡ TagNotOpen = grind arith in
    let F = subst (FoundIs a.s.now a.tag) n c.find.ensures in
    let R = c.from_residual-in_err-i in
    handed (λ x. Brings a.s.now a.store.now a.buf.now a.s.now a.store.now a.buf.now a.tag (tables a.out.now a.inn.now) (answered_by x)) R.result R.ensures.1
    (rw f
    (refuses (tables_24 (view a.s.now a.store.now) _ a.tag (tables a.out.now a.inn.now) c.if-buf.false (view_live a.s.now a.store.now ∙ live) (tag_free a.s.now a.tag F live a.store.now))))
