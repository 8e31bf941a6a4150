-- `exports::port::srp_target_login` meets its contract.
use lib.ListN.{length}
use Rattle.exports.proofs.InC.{logs_in_c}
use Rattle.exports.proofs.port.srp_target_login.Goals as goal

pub returns : goal.returns
returns c = λ st. logs_in_c c.args.own.now c.args.msg.now (length c.args.buf.now) c.settings_of-c.ensures (c.login.ensures st) c.give.ensures
