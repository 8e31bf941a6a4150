-- `transfer::plan` meets its contract.
use Rattle.srp.specs.Calls.{plan_checks, plan_outcome}
use Rattle.words.specs.View.{view}
use Rattle.state.proofs.Drawn.{refuses_closed, refuses_unready}
use Rattle.transfer.proofs.plan.Goals as goal

pub returns-in_err-open_head : goal.returns-in_err-open_head
returns-in_err-open_head c =
    let a = c.args in
    λ st. let p = view a.s.now st in
    refuses_closed a.s.now st (plan_outcome p a.tag a.out a.inn) (plan_checks p a.tag) c.from_residual.result c.from_residual.ensures.1 c.in_err-open_head.ensures

pub returns-in_err-i : goal.returns-in_err-i
returns-in_err-i c =
    let a = c.args in
    λ st. let p = view a.s.now st in
    refuses_unready a.s.now st (plan_outcome p a.tag a.out a.inn) (plan_checks p a.tag) c.from_residual-in_err-i.result c.from_residual-in_err-i.ensures.1 c.in_ok-open_head.ensures.live a.tag c.in_err-i.ensures
