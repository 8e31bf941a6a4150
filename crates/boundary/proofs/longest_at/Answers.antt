-- `boundary::longest_at` meets its contract.
use Rattle.boundary.proofs.Powers.{alone, by_mask}
use Rattle.boundary.proofs.longest_at.Goals as goal

pub returns-then-q-eq0 : goal.returns-then-q-eq0
returns-then-q-eq0 c =
    alone c.args.most c.args.q c.args.address c.if-q-eq0.true

pub returns : goal.returns
returns c =
    by_mask c.args.most c.args.q c.args.address c.requires c.if-q-eq0.false c.min.ensures
