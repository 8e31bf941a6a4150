-- `cutlist::output::output_of` meets its contract: look refuses the message, or leaves the command to `operations`.
use Rattle.std.proofs.Common.{◌≡◌, Err, subst, sym, ap, ◌∙◌, rules}
use Rattle.srp.specs.Limits.{longest_agreed, both_formats}
use Rattle.srp.specs.Refusals.{first_of_checks}
use Rattle.srp.specs.Requests.{look_checks, command_of_lem}
use Rattle.srp.specs.declared.Command.{Command}
use Rattle.srp.proofs.Checks.{unhit, hit_by}
use Rattle.cutlist.specs.Outputs.{operations_of, Printable}
use Rattle.cutlist.proofs.output.output_of.Goals as goal

pub returns-in_err-look_command : goal.returns-in_err-look_command
returns-in_err-look_command c =
    let s = c.args.msg.now in
    let h = hit_by (first_of_checks (look_checks longest_agreed both_formats s)) (command_of_lem s) (sym c.look_command.ensures.command ∙ c.in_err-look_command.was) in
    let q : c.from_residual.result ≡ Err c.in_err-look_command.field-0.0 = search rules in
    (rw h q, subst (Printable s) (sym q) tt)

pub returns : goal.returns
returns c =
    let s = c.args.msg.now in
    let u = unhit (first_of_checks (look_checks longest_agreed both_formats s)) (command_of_lem s) (sym c.look_command.ensures.command ∙ c.in_ok-look_command.was) in
    (rw u.0 (c.operations.ensures.0 ∙ ap (λ (x : Command). operations_of x s) u.1), c.operations.ensures.1)
