-- `take::take_message` meets its contract.
use mathlib.Core.Path.{refl}
use Rattle.srp.specs.declared.Message.TheVariants.{TskMgmt, ILogout}
use Rattle.state.proofs.Drawn.{handed}
use Rattle.take.specs.Taking.{Decides}
use Rattle.take.proofs.Deciding.{commands, accepts, unadmitted, settles}
use Rattle.take.proofs.take_message.Goals as goal

pub returns-in_err-admit-in-Cmd : goal.returns-in_err-admit-in-Cmd
returns-in_err-admit-in-Cmd c =
    let a = c.args in
    let R = c.from_residual-in_err-admit-in-Cmd in
    handed (Decides a.s.now a.store.now a.buf.now a.s.now a.store.now a.buf.now a.msg.now) R.result R.ensures.1
    (unadmitted a.s.now a.store.now a.msg.now c.requires.s_value c.requires.terms_value c.in_ok-c.ensures.reading c.in-Cmd.is _ c.in_err-admit-in-Cmd.ensures)

pub returns-in_ok-admit-in-Cmd : goal.returns-in_ok-admit-in-Cmd
returns-in_ok-admit-in-Cmd c =
    let a = c.args in
    commands a.s.now a.store.now a.msg.now c.requires.s_value c.requires.terms_value c.in_ok-c.ensures.reading c.in-Cmd.is c.in_ok-admit-in-Cmd.ensures c.take_fields.ensures

pub returns-in_ok-admit-in-TskMgmt : goal.returns-in_ok-admit-in-TskMgmt
returns-in_ok-admit-in-TskMgmt c =
    let a = c.args in
    accepts a.s.now a.store.now a.msg.now c.requires.s_value c.requires.terms_value c.in_ok-c.ensures.reading (TskMgmt c.in-TskMgmt.t) c.in-TskMgmt.is
    (c.in_ok-admit-in-TskMgmt.ensures.passes a.store.now) refl (c.end_task.ensures a.store.now a.msg.now)

pub returns-in-CredRsp : goal.returns-in-CredRsp
returns-in-CredRsp c =
    let a = c.args in
    settles a.s.now a.store.now a.msg.now c.requires.s_value c.requires.terms_value c.in_ok-c.ensures.reading a.buf.now c.settle_credit.new.s c.in-CredRsp.tag c.in-CredRsp.is c.settle_credit.result c.settle_credit.ensures

pub returns-in-ILogout : goal.returns-in-ILogout
returns-in-ILogout c =
    let a = c.args in
    accepts a.s.now a.store.now a.msg.now c.requires.s_value c.requires.terms_value c.in_ok-c.ensures.reading ILogout c.in-ILogout.is refl refl
    (c.log_out.ensures a.store.now a.buf.now a.msg.now)
