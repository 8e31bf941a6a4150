-- `exports::port::srp_target_grant` meets its contract.
use mathlib.Core.List.{[]}
use lib.ListN.{length}
use Rattle.srp.specs.Calls.{grant_def}
use Rattle.words.specs.View.{view}
use Rattle.exports.proofs.Plain.{plain_answer, grant_plain}
use Rattle.exports.proofs.port.srp_target_grant.Goals as goal

pub give_length-requires : goal.give_length-requires
give_length-requires c =
    let p = view c.args.port.now [] in
    plain_answer c.grant.result (grant_def p (length c.args.buf.now)) (c.grant.ensures []).answer (grant_plain p (length c.args.buf.now))
