-- `login::answer_login` meets its contract.
use mathlib.Core.Path.{sym, ◌∙◌, ap}
use Rattle.login.specs.LoggingIn.{verdict_of}
use Rattle.login.proofs.Deciding.{accepts}
use Rattle.login.proofs.answer_login.Goals as goal

pub open_port-requires-clause-terms_fit : goal.open_port-requires-clause-terms_fit
open_port-requires-clause-terms_fit c =
    let a = c.args in
    accepts a.c a.own.now a.msg.now c.requires.good_settings (sym c.judge.ensures ∙ ap verdict_of c.in_default.is)
