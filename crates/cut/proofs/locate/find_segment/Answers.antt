-- `cut::locate::find_segment` meets its contract: the turns of proofs/Searching.
use Rattle.std.proofs.Common.{arith}
use Rattle.cut.proofs.Searching.{start, here, on}
use Rattle.cut.proofs.locate.find_segment.Goals as goal

pub loop-index-init : goal.loop-index-init
loop-index-init c =
    start c.args.list.now c.args.offset

pub returns-then-offset-through-clause-segment : goal.returns-then-offset-through-clause-segment
returns-then-offset-through-clause-segment c =
    here c.loop-index.invariant (omega arith) c.read32-len.ensures c.if-offset-through.true (omega arith)

pub loop-index-preserved : goal.loop-index-preserved
loop-index-preserved c =
    on c.loop-index.invariant (omega arith) c.read32-len.ensures c.if-offset-through.false (omega arith)
