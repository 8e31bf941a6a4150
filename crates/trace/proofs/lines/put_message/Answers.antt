-- `trace::lines::put_message` meets its contract: an odd digit, or the line of the first bytes and the length.
use Rattle.trace.proofs.Ends.{even_end}
use Rattle.trace.proofs.lines.put_message.Goals as goal

pub returns : goal.returns
returns c =
    even_end c.args.r.now c.args.way c.args.start.now c.args.text.now c.if-r-eq1.false c.min.ensures c.put_start.ensures
