-- `exports::port::srp_target_close` meets its contract.
use mathlib.Core.List.{[]}
use lib.ListN.{length}
use Rattle.srp.specs.Calls.{close_def}
use Rattle.words.specs.View.{view}
use Rattle.exports.proofs.Plain.{plain_answer, close_plain}
use Rattle.exports.proofs.port.srp_target_close.Goals as goal

pub give_length-requires : goal.give_length-requires
give_length-requires c =
    let p = view c.args.port.now [] in
    plain_answer c.close.result (close_def p (length c.args.buf.now) c.args.reason) (c.close.ensures []).answer (close_plain p (length c.args.buf.now) c.args.reason)
