-- `cut::sum` meets its contract.
use Rattle.std.proofs.Common.{sym, ◌∙◌, arith}
use Rattle.cut.proofs.Sums.{start, stop, on, end}
use Rattle.cut.proofs.sum.Goals as goal

pub loop-i-init : goal.loop-i-init
loop-i-init c =
    start c.args.list.now

pub returns-then-past : goal.returns-then-past
returns-then-past c =
    (stop c.loop-i.invariant (omega arith) c.read64-address.ensures c.read32-len.ensures (sym c.past.ensures ∙ c.if-past.true), tt)

pub loop-i-preserved : goal.loop-i-preserved
loop-i-preserved c =
    on c.loop-i.invariant (omega arith) c.read64-address.ensures c.read32-len.ensures (sym c.past.ensures ∙ c.if-past.false) (omega arith)

pub returns : goal.returns
returns c =
    (end c.loop-i.invariant (omega arith), omega (arith, c.loop-i.invariant.bounded))
