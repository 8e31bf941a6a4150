-- `cutlist::output::operations` meets its contract: each return is the law of the check that hits there; the last, that none does.
use mathlib.Core.Path.{sym, ◌∙◌}
use Rattle.command.proofs.Tables.{none_awaited}
use Rattle.cutlist.proofs.Buffers.{to_fetch, bad_out, bad_in, all_good, summed, ready}
use Rattle.cutlist.proofs.output.operations.Goals as goal

pub returns-then-waits : goal.returns-then-waits
returns-then-waits c =
    (to_fetch c.args.c c.args.msg.now (sym c.waits.ensures ∙ c.if-waits.true), tt)

pub fields-requires : goal.fields-requires
fields-requires c =
    record { standing_len = c.standing.ensures.1; count_le_most_copies = c.requires.out.count; table_len = sym (none_awaited c.args.c (sym c.waits.ensures ∙ c.if-waits.false)).0 }

pub returns-in_default : goal.returns-in_default
returns-in_default c =
    let no = sym c.waits.ensures ∙ c.if-waits.false in
    (bad_out c.args.c c.args.msg.now no (summed c.args.c.out c.args.msg.now c.standing.ensures.0 c.fields.ensures.0 c.in_default.is), tt)

pub fields-requires-2 : goal.fields-requires-2
fields-requires-2 c =
    record { standing_len = c.standing-2.ensures.1; count_le_most_copies = c.requires.inn.count; table_len = sym (none_awaited c.args.c (sym c.waits.ensures ∙ c.if-waits.false)).1 }

pub returns-in_default-fields : goal.returns-in_default-fields
returns-in_default-fields c =
    let no = sym c.waits.ensures ∙ c.if-waits.false in
    let out = summed c.args.c.out c.args.msg.now c.standing.ensures.0 c.fields.ensures.0 c.in-Some.is in
    (bad_in c.args.c c.args.msg.now no out (summed c.args.c.inn c.args.msg.now c.standing-2.ensures.0 c.fields-2.ensures.0 c.in_default-fields.is), tt)

pub overflow_cast-result : goal.overflow_cast-result
overflow_cast-result c =
    record { fits = (rw c.in-Some.is at c.fields.ensures.1).2 }

pub overflow_cast-result-2 : goal.overflow_cast-result-2
overflow_cast-result-2 c =
    record { fits = (rw c.in-Some-fields.is at c.fields-2.ensures.1).2 }

pub returns : goal.returns
returns c =
    let no = sym c.waits.ensures ∙ c.if-waits.false in
    let out = summed c.args.c.out c.args.msg.now c.standing.ensures.0 c.fields.ensures.0 c.in-Some.is in
    let inn = summed c.args.c.inn c.args.msg.now c.standing-2.ensures.0 c.fields-2.ensures.0 c.in-Some-fields.is in
    (all_good c.args.c c.args.msg.now no out inn, (ready c.requires.out out, ready c.requires.inn inn))
