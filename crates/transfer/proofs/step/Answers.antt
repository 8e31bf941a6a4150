-- `transfer::step` meets its contract.
use mathlib.Core.Path.{refl}
use Rattle.srp.specs.Calls.{step_checks, step_outcome}
use Rattle.words.specs.View.{view}
use Rattle.state.proofs.Drawn.{refuses_closed, refuses_unready}
use Rattle.transfer.proofs.step.Goals as goal

pub returns-in_err-h : goal.returns-in_err-h
returns-in_err-h c =
    let a = c.args in
    let p = view a.s.now a.store.now in
    record {
      replies = refuses_closed a.s.now a.store.now (step_outcome p a.tag a.d) (step_checks p a.tag) c.from_residual.result c.from_residual.ensures.1 c.in_err-h.ensures;
      done = λ n e. refl;
    }

pub returns-in_err-i : goal.returns-in_err-i
returns-in_err-i c =
    let a = c.args in
    let p = view a.s.now a.store.now in
    record {
      replies = refuses_unready a.s.now a.store.now (step_outcome p a.tag a.d) (step_checks p a.tag) c.from_residual-in_err-i.result c.from_residual-in_err-i.ensures.1 c.in_ok-h.ensures.live a.tag c.in_err-i.ensures;
      done = λ n e. refl;
    }
