-- `boundary::is_bad` meets its contract.
use Rattle.boundary.proofs.Powers.{none, low, high, by_power}
use Rattle.boundary.proofs.is_bad.Goals as goal

pub returns-then-q-eq0 : goal.returns-then-q-eq0
returns-then-q-eq0 c =
    none c.args.q c.if-q-eq0.true

pub returns-then-exponent-lt-LEAST_EXPONENT : goal.returns-then-exponent-lt-LEAST_EXPONENT
returns-then-exponent-lt-LEAST_EXPONENT c =
    low c.args.q c.if-q-eq0.false c.if-exponent-lt-LEAST_EXPONENT.true

pub returns-then-exponent-gt-GREATEST_EXPONENT : goal.returns-then-exponent-gt-GREATEST_EXPONENT
returns-then-exponent-gt-GREATEST_EXPONENT c =
    high c.args.q c.if-q-eq0.false c.if-exponent-gt-GREATEST_EXPONENT.true

pub returns : goal.returns
returns c =
    by_power c.args.q c.if-q-eq0.false c.if-exponent-lt-LEAST_EXPONENT.false c.if-exponent-gt-GREATEST_EXPONENT.false
