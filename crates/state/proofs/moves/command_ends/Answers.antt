-- `state::command_ends` meets its contract.
use mathlib.Core.Path.{sym, ◌∙◌}
use Rattle.state.proofs.Parting.{other_ends}
use Rattle.state.proofs.moves.command_ends.Goals as goal

pub returns-then-other_tag : goal.returns-then-other_tag
returns-then-other_tag c =
    other_ends c.args.s.now c.args.which c.args.tag (sym c.other_tag.ensures ∙ c.if-other_tag.true)
