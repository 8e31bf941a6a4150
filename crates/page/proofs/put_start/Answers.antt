-- `page::put_start` meets its contract: the name, what its line says, the line.
use Rattle.page.proofs.Lines.{named}
use Rattle.page.proofs.put_start.Goals as goal

pub returns : goal.returns
returns c =
    named c.args.way c.args.len c.args.start.now c.args.buf.now c.name-name.ensures.0 c.line.ensures c.put_line.ensures
