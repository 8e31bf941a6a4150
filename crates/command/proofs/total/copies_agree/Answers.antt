-- `command::total::copies_agree` meets its contract. A list has no longer beginning.
use borrow.Author.Tests.{lt-leb}
use Rattle.command.proofs.Tables.{longer_differs}
use Rattle.command.proofs.total.copies_agree.Goals as goal

pub returns-else-copies-table : goal.returns-else-copies-table
returns-else-copies-table c =
    rw (lt-leb _ _ c.if-copies-table.false) (longer_differs c.args.copies.now c.args.table.now c.if-copies-table.false)
