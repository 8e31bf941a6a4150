-- `command::read_command` meets its contract. By what the shape was read as.
use Rattle.std.proofs.Common.{sym, ◌∙◌, rules}
use Rattle.srp.specs.Refusals.{first_of_checks}
use Rattle.srp.specs.Requests.{command_of_lem, command_checks}
use Rattle.srp.proofs.Checks.{unhit, hit_by}
use Rattle.command.specs.Reading.{shape_of}
use Rattle.command.proofs.read_command.Goals as goal

pub returns-in_err-read_shape-clause-command : goal.returns-in_err-read_shape-clause-command
returns-in_err-read_shape-clause-command c =
    let s = c.args.msg.now in
    rw (hit_by (first_of_checks (command_checks c.args.formats s)) (shape_of (command_of_lem s)) (sym c.read_shape.ensures.shape ∙ c.in_err-read_shape.was)) (search rules)

pub command_of-requires-clause-shape_value : goal.command_of-requires-clause-shape_value
command_of-requires-clause-shape_value c =
    let s = c.args.msg.now in
    (unhit (first_of_checks (command_checks c.args.formats s)) (shape_of (command_of_lem s)) (sym c.read_shape.ensures.shape ∙ c.in_ok-read_shape.was)).1
