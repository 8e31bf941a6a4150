-- `close::close` meets its contract.
use mathlib.Core.Path.{refl, ◌∙◌}
use mathlib.Core.List.{[], ◌∷◌}
use lib.ListN.{length}
use borrow.Author.Tests.{le-ltb}
use Rattle.srp.specs.Limits.{buffer_size}
use Rattle.srp.specs.Take.{closed}
use Rattle.srp.specs.Calls.{unless, close_outcome}
use Rattle.words.specs.View.{view}
use Rattle.words.proofs.Ports.{view_live}
use Rattle.state.proofs.Promises.{answers_by}
use Rattle.state.proofs.Drawn.{draws_short, answers_refusal, answers_closed}
use Rattle.close.proofs.close.Goals as goal

pub returns-then-buf : goal.returns-then-buf
returns-then-buf c =
    let a = c.args in
    λ st. let p = view a.s.now st in
    answers_refusal a.s.now st a.buf.now c.refused.ensures (close_outcome p a.reason) (draws_short a.buf.now c.if-buf.true (closed p ∷ []))

pub returns-in-Err : goal.returns-in-Err
returns-in-Err c =
    let a = c.args in
    λ st. let p = view a.s.now st in
    answers_closed a.s.now st a.buf.now c.refused-in-Err.ensures (λ k. unless k p (close_outcome p a.reason)) refl c.if-buf.false c.in-Err.ensures []

pub returns : goal.returns
returns c =
    let a = c.args in
    λ st. answers_by (rw (le-ltb (length a.buf.now) buffer_size c.if-buf.false, view_live a.s.now st ∙ c.in_default.ensures.live) refl) (c.log_out.ensures st)
