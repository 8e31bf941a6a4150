-- `exports::port::srp_target_list` meets its contract.
use Rattle.exports.proofs.Listing.{listed_in_c}
use Rattle.exports.proofs.port.srp_target_list.Goals as goal

pub returns-in-Ok : goal.returns-in-Ok
returns-in-Ok c = listed_in_c c.in-Ok.ensures c.put_records.ensures
