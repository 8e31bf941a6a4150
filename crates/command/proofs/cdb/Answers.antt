-- `command::cdb` meets its contract. By what the command was read as; its CDB lies in the message.
use Rattle.std.proofs.Common.{[], sym, ap, ◌∙◌, take, drop}
use Rattle.srp.specs.Messages.{cmd}
use Rattle.srp.specs.Refusals.{first_of_checks}
use Rattle.srp.specs.Requests.{cdb_length, command_of_lem, look_checks}
use Rattle.srp.specs.declared.Command.{Command}
use Rattle.srp.proofs.Checks.{unhit, hit_by, none_hit, some_hit}
use Rattle.command.proofs.Tables.{part}
use Rattle.command.proofs.cdb.Goals as goal

pub returns-in_default : goal.returns-in_default
returns-in_default c =
    let s = c.args.msg.now in
    let o = first_of_checks (look_checks c.args.agreed c.args.formats s) in
    some_hit (take (cdb_length s) (drop cmd.size s)) (λ r. []) o (hit_by o (command_of_lem s) (sym c.look_command.ensures.command ∙ c.in_default.is))

pub returns : goal.returns
returns c =
    let s = c.args.msg.now in
    let o = first_of_checks (look_checks c.args.agreed c.args.formats s) in
    let u = unhit o (command_of_lem s) (sym c.look_command.ensures.command ∙ c.in-Ok.is) in
    part cmd.size c.in-Ok.c.cdb s ∙ ap (λ (m : Command). take m.cdb (drop cmd.size s)) u.1 ∙ none_hit (take (cdb_length s) (drop cmd.size s)) (λ r. []) o u.0
