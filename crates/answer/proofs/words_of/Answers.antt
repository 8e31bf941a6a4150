-- `answer::words_of` meets its contract: each case by its own words.
use Rattle.answer.proofs.words_of.Goals as goal

pub returns-in-Operation : goal.returns-in-Operation
returns-in-Operation c = rw (c.in-Ok.is, c.in-Operation.is) (c.operation_words.ensures c.args.a.wrote)

pub returns-in-Done : goal.returns-in-Done
returns-in-Done c = rw (c.in-Ok.is, c.in-Done.is) (c.done_words.ensures c.args.a.wrote)

pub returns-in-Served : goal.returns-in-Served
returns-in-Served c = rw (c.in-Ok.is, c.in-Served.is) (c.served_words.ensures c.args.a.wrote)

pub returns-in-Counts : goal.returns-in-Counts
returns-in-Counts c = rw (c.in-Ok.is, c.in-Counts.is) (c.counter_words.ensures c.args.a.wrote)
