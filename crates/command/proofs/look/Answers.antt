-- `command::look` meets its contract. By what the shape was read as.
use Rattle.std.proofs.Common.{sym, ap, ◌∙◌, rules, Ok}
use Rattle.srp.specs.Refusals.{first_of_checks}
use Rattle.srp.specs.Descriptors.{fetch_of}
use Rattle.srp.specs.Requests.{command_of_lem, look_checks}
use Rattle.srp.proofs.Checks.{unhit, hit_by}
use Rattle.command.specs.Reading.{shape_of}
use Rattle.command.specs.declared.shape.Shape.{Shape}
use Rattle.command.proofs.look.Goals as goal

pub returns-in_err-shape : goal.returns-in_err-shape
returns-in_err-shape c =
    let s = c.args.msg.now in
    rw (hit_by (first_of_checks (look_checks c.args.agreed c.args.formats s)) (shape_of (command_of_lem s)) (sym c.look_shape.ensures.shape ∙ c.in_err-shape.was)) (search rules)

pub returns : goal.returns
returns c =
    let s = c.args.msg.now in
    let u = unhit (first_of_checks (look_checks c.args.agreed c.args.formats s)) (shape_of (command_of_lem s)) (sym c.look_shape.ensures.shape ∙ c.in_ok-shape.was) in
    rw (u.0, c.fetch.ensures, c.fetch-2.ensures) (ap (λ (x : Shape). Ok (record { out = fetch_of x.out s; inn = fetch_of x.inn s })) u.1)
