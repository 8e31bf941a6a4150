-- `transfer::turn` meets its contract.
use Rattle.transfer.specs.Turning.{FirstIs}
use Rattle.transfer.proofs.Turns.{first_is, turns_unknown}
use Rattle.transfer.proofs.turn.Goals as goal

pub returns-in_default : goal.returns-in_default
returns-in_default c =
    let a = c.args in
    let I : FirstIs a.s.now c.at-x.result = first_is a.s.now c.at-x.result c.len.ensures.0 c.if-len-eq0.false c.at-x.ensures in
    turns_unknown a.s.now a.store.now c.in_ok-h.ensures.live I (rw c.in_default.is at c.find.ensures)

pub serve-requires-clause-first_is : goal.serve-requires-clause-first_is
serve-requires-clause-first_is c =
    first_is c.args.s.now c.at-x.result c.len.ensures.0 c.if-len-eq0.false c.at-x.ensures
