-- `report::listing_for` meets its contract.
use Rattle.report.proofs.Listed.{lists, lent}
use Rattle.report.proofs.listing_for.Goals as goal

pub returns : goal.returns
returns c = λ st. rw c.unwrap_or.ensures (lent st (lists c.held_for-n.result c.map.result c.held_for-n.ensures c.map.ensures.cases st) c.list.result (c.list.ensures st))
