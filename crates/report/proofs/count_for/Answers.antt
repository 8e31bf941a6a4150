-- `report::count_for` meets its contract.
use Rattle.report.proofs.Listed.{count_open}
use Rattle.report.proofs.count_for.Goals as goal

pub returns : goal.returns
returns c = count_open c.in_ok-held_for.ensures
