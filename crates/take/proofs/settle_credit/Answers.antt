-- `take::settle_credit` meets its contract.
use mathlib.Core.Path.{refl, ◌∙◌}
use mathlib.Core.List.{List}
use Prim.Native.Nat.{ℕ}
use borrow.Author.Tests.{eq-eqb, not-false}
use Rattle.state.proofs.Promises.{accepted, altered_view}
use Rattle.state.proofs.Opened.{unanswered_is}
use Rattle.take.proofs.settle_credit.Goals as goal

pub returns : goal.returns
returns c =
    let a = c.args in
    let u = λ (st : List ℕ). unanswered_is c.get_head.ensures st c.requires.s_value ∙ not-false c.get_head.result.unanswered c.if-not-get_head.false in
    ((λ st. rw (u st, eq-eqb a.tag 1 c.if-tag-ne-CREDIT_TAG.false) refl), λ st b s. accepted refl (altered_view a.s.now c.set_unanswered.new.s st c.requires.s_value c.set_unanswered.ensures) refl refl refl)
