-- `words::shift_slot` meets its contract.
use native.Mathlib.Omega.{arith}
use borrow.Author.Rules.{rules}
use Rattle.words.proofs.Words.{shifted}
use Rattle.words.proofs.commands.shift_slot.Goals as goal

pub returns : goal.returns
returns c =
    let a = c.args in
    rw c.copy_within.ensures.after
    (shifted a.s.now (search rules) a.from a.to c.requires.from_lt_most_slots c.requires.to_lt_from _ (omega arith))
