-- `state::settle` meets its contract.
use Rattle.state.proofs.Altered.{settled}
use Rattle.state.proofs.settle.Goals as goal

pub returns : goal.returns
returns c =
    settled _ c.get_head-h.ensures.whole c.args.used c.due-delta.result c.due-delta.ensures c.set_counts.ensures
