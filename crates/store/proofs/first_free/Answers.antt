-- `store::first_free` meets its contract.
use borrow.Author.Rules.{rules}
use Rattle.store.proofs.Marks.{first_free_lem}
use Rattle.store.proofs.first_free.Goals as goal

pub returns : goal.returns
returns c =
    first_free_lem c.args.used (search rules) c.requires _ 15 (rw c.first_unused.ensures at c.unwrap_or.ensures)
