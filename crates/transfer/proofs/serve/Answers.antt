-- `transfer::serve` meets its contract.
use Rattle.transfer.specs.Stepping.{HandsOne}
use Rattle.transfer.proofs.Turns.{serves_one}
use Rattle.transfer.proofs.serve.Goals as goal

pub returns-in-One : goal.returns-in-One
returns-in-One c =
    let a = c.args in
    let H : HandsOne a.s.now c.hand_out.new.s a.store.now a.i a.x.direction c.in-One.piece c.in-One.n c.in-One.more = rw c.in-One.is at c.hand_out.ensures in
    serves_one c.requires.found_at c.requires.s_value c.requires.first_is a.store.now H c.pass.ensures
