-- `request::read_message` meets its contract.
use Rattle.std.proofs.Common.{◌≡◌, Err, rules, subst, sym, ◌∙◌, arith}
use Rattle.srp.specs.Requests.{read_message_lem}
use Rattle.request.specs.Reading.{FitsMessage}
use Rattle.request.proofs.Messages.{hangs, other_read, command_read, command_refused}
use Rattle.request.proofs.read_message.Goals as goal

pub returns-in_default-clause-reading : goal.returns-in_default-clause-reading
unfolding read_message_lem
returns-in_default-clause-reading c = search rules

pub returns-in_default-2-clause-reading : goal.returns-in_default-2-clause-reading
unfolding read_message_lem
returns-in_default-2-clause-reading c = search rules

pub returns-in_default-kind-clause-reading : goal.returns-in_default-kind-clause-reading
returns-in_default-kind-clause-reading c =
    let a = c.args in
    c.read_other.ensures.0 a.formats (search rules) ∙ other_read a.agreed a.formats a.msg.now (omega arith) (omega arith) c.read8-kind.ensures

pub returns-clause-reading : goal.returns-clause-reading
returns-clause-reading c =
    let a = c.args in
    command_read a.agreed a.formats a.msg.now (omega arith) (omega arith) c.read8-kind.ensures c.in-2.is (sym c.read_command.ensures.command ∙ c.in_ok-read_command.was)

pub returns-in_err-read_command-clause-reading : goal.returns-in_err-read_command-clause-reading
returns-in_err-read_command-clause-reading c =
    let a = c.args in
    let e = command_refused a.agreed a.formats a.msg.now (omega arith) (omega arith) c.read8-kind.ensures c.in-2.is (sym c.read_command.ensures.command ∙ c.in_err-read_command.was) in
    rw (← e) (search rules)

pub returns-in_err-read_command-clause-fits : goal.returns-in_err-read_command-clause-fits
returns-in_err-read_command-clause-fits c =
    let a = c.args in
    let e = command_refused a.agreed a.formats a.msg.now (omega arith) (omega arith) c.read8-kind.ensures c.in-2.is (sym c.read_command.ensures.command ∙ c.in_err-read_command.was) in
    let h = hangs a.agreed a.formats a.msg.now e in
    let q : c.from_residual.result ≡ Err c.in_err-read_command.field-0.0 = search rules in
    subst (FitsMessage a.msg.now) (sym q) h
