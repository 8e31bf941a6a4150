-- `cutlist::lines::put_operation` meets its contract: its four parts, one behind the other.
use Rattle.text.proofs.Texts.{then}
use Rattle.cutlist.proofs.lines.put_operation.Goals as goal

pub returns : goal.returns
returns c =
    then c.put_letter-handle_at.ensures (then c.put_number-address_at.ensures (then c.put_number-length_at.ensures c.put_last.ensures))
