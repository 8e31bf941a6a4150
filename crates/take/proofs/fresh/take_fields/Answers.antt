-- `take::fresh::take_fields` meets its contract.
use mathlib.Core.Path.{sym, ◌∙◌}
use Rattle.take.proofs.Newly.{waited, entered, bad_out, bad_in, reads_waiting, reads_ready}
use Rattle.take.proofs.fresh.take_fields.Goals as goal

pub enter-requires-clause-newly_read : goal.enter-requires-clause-newly_read
enter-requires-clause-newly_read c =
    rw (c.new_part-none.ensures, c.placeless.ensures, c.placeless-then-waits.ensures)
    (reads_waiting c.requires.fits_in (sym c.waits.ensures ∙ c.if-waits.true))

pub returns-then-waits : goal.returns-then-waits
returns-then-waits c = waited c.args.buf.now (sym c.waits.ensures ∙ c.if-waits.true) c.enter.ensures

pub returns-in_default : goal.returns-in_default
returns-in_default c = bad_out (sym c.waits.ensures ∙ c.if-waits.false) c.in_default.ensures c.answer.ensures

pub returns-in_default-part_of : goal.returns-in_default-part_of
returns-in_default-part_of c =
    bad_in (sym c.waits.ensures ∙ c.if-waits.false) c.in-Some.ensures c.in_default-part_of.ensures c.answer-in_default-part_of.ensures

pub enter-requires-2-clause-newly_read : goal.enter-requires-2-clause-newly_read
enter-requires-2-clause-newly_read c =
    rw c.not_waiting.ensures (reads_ready c.requires.fits_in (sym c.waits.ensures ∙ c.if-waits.false) c.in-Some.ensures c.in-Some-part_of.ensures)

pub returns : goal.returns
returns c = entered c.args.buf.now (sym c.waits.ensures ∙ c.if-waits.false) c.in-Some.ensures c.in-Some-part_of.ensures c.enter-2.ensures
