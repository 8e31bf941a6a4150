-- `words::set_move` meets its contract.
use borrow.Author.Rules.{rules}
use Rattle.words.proofs.Words.{moved_put}
use Rattle.words.proofs.commands.set_move.Goals as goal

pub returns : goal.returns
returns c =
    let a = c.args in
    rw (← c.part_at-k.ensures.0) at
    (moved_put a.s.now (search rules) a.i c.requires.i_lt_most_slots a.d a.highest a.next a.end a.number (search rules) (search rules) (search rules) c.requires.number_le_next)
