-- `exports::taking::srp_target_tables` meets its contract.
use lib.ListN.{length}
use Rattle.srp.specs.Tables.{tables_def}
use Rattle.words.specs.View.{view}
use Rattle.tables.specs.Bringing.{tables}
use Rattle.exports.proofs.Plain.{plain_answer, tables_plain}
use Rattle.exports.proofs.taking.srp_target_tables.Goals as goal

pub give_length-requires : goal.give_length-requires
give_length-requires c =
    let a = c.args in
    let p = view a.port.now a.store.now in
    let t = tables a.out.now a.inn.now in
    plain_answer c.bring.result (tables_def p (length a.buf.now) a.tag t) c.bring.ensures.answers.answer (tables_plain p (length a.buf.now) a.tag t)
