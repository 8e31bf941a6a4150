-- `cutlist::output::fill` meets its contract: the loop's invariant is `Filling`; the measure is how many bytes are left. A piece is always there, so the arm without one is never taken.
use native.Mathlib.Omega.{arith}
use borrow.Author.Rules.{rules}
use Rattle.srp.specs.Descriptors.{segments_of}
use Rattle.cutlist.proofs.Filling.{start, filled, there, fits, short, on}
use Rattle.cutlist.proofs.output.fill.Goals as goal

pub loop-next-init : goal.loop-next-init
loop-next-init c =
    let a = c.args in start a.kind a.from a.to (segments_of a.list.now) a.text.now c.requires.list_value c.requires.to_bound c.requires.from_lt_to

pub returns-then-text-end-lt-LONGEST_LINE : goal.returns-then-text-end-lt-LONGEST_LINE
returns-then-text-end-lt-LONGEST_LINE c =
    filled c.loop-next.invariant (c.loop-next.invariant.begun (omega arith))

pub returns-in_default : goal.returns-in_default
returns-in_default c =
    let t = there c.loop-next.invariant c.loop-next-test.true c.next_piece.ensures in
    cc (t.1, c.in_default.is)

pub put_operation-end-requires : goal.put_operation-end-requires
put_operation-end-requires c =
    let f = short c.loop-next.invariant c.loop-next-test.true c.next_piece.ensures c.in-Some.is in
    omega (arith, f, c.if-text-end-lt-LONGEST_LINE.false)

pub overflow_add-next : goal.overflow_add-next
overflow_add-next c =
    let f = fits c.loop-next.invariant c.loop-next-test.true c.next_piece.ensures c.in-Some.is in
    record { fits = omega (arith, f.upto) }

pub loop-next-smaller : goal.loop-next-smaller
loop-next-smaller c =
    let f = fits c.loop-next.invariant c.loop-next-test.true c.next_piece.ensures c.in-Some.is in
    omega (arith, f.some, c.loop-next-test.true)

pub loop-next-preserved : goal.loop-next-preserved
loop-next-preserved c =
    on c.loop-next.invariant c.loop-next-test.true c.next_piece.ensures c.in-Some.is (search rules) c.put_operation-end.ensures

pub returns : goal.returns
returns c =
    filled c.loop-next.invariant (omega arith)
