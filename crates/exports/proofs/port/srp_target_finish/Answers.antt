-- `exports::port::srp_target_finish` meets its contract.
use mathlib.Core.List.{[]}
use lib.ListN.{length}
use Rattle.srp.specs.Calls.{finish_def}
use Rattle.words.specs.View.{view}
use Rattle.exports.proofs.Plain.{plain_answer, finish_plain}
use Rattle.exports.proofs.port.srp_target_finish.Goals as goal

pub give_length-requires : goal.give_length-requires
give_length-requires c =
    let p = view c.args.port.now [] in
    plain_answer c.finish.result (finish_def p (length c.args.buf.now) c.args.tag c.args.status c.args.sense.now) (c.finish.ensures []).answer (finish_plain p (length c.args.buf.now) c.args.tag c.args.status c.args.sense.now)
