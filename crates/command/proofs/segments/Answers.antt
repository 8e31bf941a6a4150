-- `command::segments` meets its contract. By what the command was read as, and the direction.
use Rattle.std.proofs.Common.{[], ◌≡◌, List, ℕ, sym, ap, ◌∙◌}
use Rattle.srp.specs.Refusals.{first_of_checks}
use Rattle.srp.specs.Descriptors.{giving, chosen, segment_bytes}
use Rattle.srp.specs.Requests.{command_of_lem, look_checks, descriptor_for}
use Rattle.srp.specs.declared.Command.{Command}
use Rattle.srp.specs.declared.Descriptor.{Descriptor}
use Rattle.srp.specs.declared.Direction.{Direction}
use Rattle.srp.proofs.Checks.{unhit, hit_by, none_hit, some_hit}
use Rattle.command.proofs.segments.Goals as goal
use Rattle.command.proofs.segments.Goals.{in-Out, in-In}

pub returns-in_default : goal.returns-in_default
returns-in_default c =
    let s = c.args.msg.now in
    let o = first_of_checks (look_checks c.args.agreed c.args.formats s) in
    some_hit (segment_bytes (descriptor_for c.args.direction s) s c.args.table.now) (λ r. []) o
    (hit_by o (command_of_lem s) (sym c.look_command.ensures.command ∙ c.in_default.is))

pub returns : goal.returns
returns c =
    let s = c.args.msg.now in
    let t = c.args.table.now in
    let o = first_of_checks (look_checks c.args.agreed c.args.formats s) in
    let u = unhit o (command_of_lem s) (sym c.look_command.ensures.command ∙ c.in-Ok.is) in
    let is : c.match-direction.d ≡ descriptor_for c.args.direction s =
    elim c.match-direction.branch [
      | in-Out w ↦ w.d-is ∙ ap (λ (m : Command). m.out) u.1 ∙ ap (λ (d : Direction). descriptor_for d s) (sym w.in-Out.is)
      | in-In w ↦ w.d-is ∙ ap (λ (m : Command). m.inn) u.1 ∙ ap (λ (d : Direction). descriptor_for d s) (sym w.in-In.is)
    ] in
    c.segment_list.ensures
    ∙ ap (λ (b : List ℕ). chosen (giving c.match-direction.d b) t) c.standing.ensures.0
    ∙ ap (λ (d : Descriptor). segment_bytes d s t) is
    ∙ none_hit (segment_bytes (descriptor_for c.args.direction s) s t) (λ r. []) o u.0
