-- `state::find` meets its contract.
use Rattle.state.proofs.Held.{search_more, search_here, search_end}
use Rattle.state.proofs.find.Goals as goal

pub returns-then-s-i : goal.returns-then-s-i
returns-then-s-i c =
    search_here c.args.s.now c.args.tag _ c.loop-i.i c.loop-i.invariant c.loop-i-test.true c.if-s-i.true

pub loop-i-preserved : goal.loop-i-preserved
loop-i-preserved c =
    search_more c.args.s.now c.args.tag _ c.loop-i.i c.loop-i.invariant c.loop-i-test.true c.if-s-i.false

pub returns : goal.returns
returns c =
    search_end c.args.s.now c.args.tag _ c.loop-i.i c.loop-i.invariant c.loop-i-test.false
