use borrow.Author.Rules.{rules}
use Rattle.words.proofs.Slots.{saved}
use Rattle.words.proofs.commands.save.Goals as goal

-- src/commands.rt:184:1
pub returns : goal.returns
returns c =
    let a = c.args in
    rw (c.put-2.ensures, c.put.ensures, c.words_of-w.ensures, c.awaited_words-a.ensures)
    (saved a.s.now (search rules) a.i c.requires.i_lt_most_slots a.c _ c.well_formed.1.1.0 c.requires.slot_fits)
