-- `words::set_plan` meets its contract.
use borrow.Author.Rules.{rules}
use Rattle.words.proofs.Words.{plan_put}
use Rattle.words.proofs.commands.set_plan.Goals as goal

pub returns : goal.returns
returns c =
    let a = c.args in
    plan_put a.s.now (search rules) a.i c.requires.i_lt_most_slots a.out a.inn (search rules) (search rules)
