-- `state::drop_commands` meets its contract.
use Rattle.state.proofs.Parting.{all_left}
use Rattle.state.proofs.drop_commands.Goals as goal

pub returns : goal.returns
returns c =
    all_left _ _ _ _ c.leave.ensures c.drop_slots.ensures
