-- `exports::port::srp_target_counters` meets its contract.
use mathlib.Core.Path.{sym, ◌∙◌}
use Rattle.srp.specs.Calls.{counters_def}
use Rattle.words.specs.View.{view}
use Rattle.exports.proofs.InC.{says, in_numbers, silently}
use Rattle.exports.proofs.Listing.{counters_unwritten}
use Rattle.exports.proofs.port.srp_target_counters.Goals as goal

pub returns-in-Ok-Counts : goal.returns-in-Ok-Counts
returns-in-Ok-Counts c = λ st.
    let p = view c.args.port.now st in
    in_numbers (silently (counters_def p) (c.counters-r.ensures st) (counters_unwritten p))
    (says 0 c.in-Ok-Counts.is (rw c.in-Ok-Counts.is at c.in-Ok-Counts.field-0-is) (c.counter_words.ensures 0))

pub returns-in-Ok : goal.returns-in-Ok
returns-in-Ok c = λ st.
    let p = view c.args.port.now st in
    in_numbers (silently (counters_def p) (sym c.in-Ok.is ∙ c.counters-r.ensures st) (counters_unwritten p)) c.give.ensures

pub returns-in-Err : goal.returns-in-Err
returns-in-Err c = λ st.
    let p = view c.args.port.now st in
    in_numbers (silently (counters_def p) (sym c.in-Err.is ∙ c.counters-r.ensures st) (counters_unwritten p)) c.give_nothing.ensures
