-- `division::divide` meets its contract: the loop's invariant is `Counting`.
use Rattle.std.proofs.Common.{◌≡◌, subst, sym, ◌∙◌, arith}
use Rattle.division.proofs.Counting.{Counting, below, start, on, all_counted}
use Rattle.division.specs.Dividing.{values}
use Rattle.division.proofs.divide.Goals as goal

pub loop-byte-init : goal.loop-byte-init
loop-byte-init c =
    start c.args.formats

pub counted-d-requires : goal.counted-d-requires
counted-d-requires c =
    below c.args.formats c.loop-byte.byte c.loop-byte.invariant.counts (omega arith)

pub loop-byte-preserved : goal.loop-byte-preserved
loop-byte-preserved c =
    on c.loop-byte.invariant (omega arith) c.counted-d.ensures

pub returns : goal.returns
returns c =
    let last : c.loop-byte.byte ≡ values = omega arith in
    all_counted c.args.formats (sym c.other_formats.ensures ∙ c.if-other_formats.false)
    (subst (Counting c.args.formats c.loop-byte.d) last c.loop-byte.invariant)
