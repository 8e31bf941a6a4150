-- `finish::finishable` meets its contract.
use mathlib.Core.Path.{refl, sym, ◌∙◌}
use mathlib.Core.List.{[], ◌∷◌}
use lib.ListN.{drop}
use borrow.Author.Tests.{lt-ltb, le-ltb}
use Rattle.srp.specs.Limits.{buffer_size}
use Rattle.srp.specs.Take.{closed}
use Rattle.srp.specs.Calls.{finish_checks}
use Rattle.words.specs.View.{view}
use Rattle.state.proofs.Drawn.{drawn_first, handed}
use Rattle.finish.specs.Finishing.{MayFinish}
use Rattle.finish.proofs.Checks.{by_ready}
use Rattle.finish.proofs.finishable.Goals as goal

pub returns-then-room : goal.returns-then-room
returns-then-room c = λ st. rw (lt-ltb c.args.room buffer_size c.if-room.true) refl

pub returns-in_err-open_head : goal.returns-in_err-open_head
returns-in_err-open_head c =
    let a = c.args in
    handed (MayFinish a.s.now a.tag a.status a.sense.now a.room) c.from_residual.result c.from_residual.ensures.1
    (λ st. let p = view a.s.now st in
    rw (le-ltb a.room buffer_size c.if-room.false)
    (drawn_first (closed p ∷ []) (drop 2 (finish_checks p a.room a.tag a.status a.sense.now)) (c.in_err-open_head.ensures st)))

pub returns : goal.returns
returns c =
    let a = c.args in
    by_ready a.s.now a.tag a.status a.sense.now a.room c.in_ok-open_head.ensures.live c.if-room.false (sym c.bad_sense.ensures ∙ c.if-bad_sense.false) c.find_ready.result c.find_ready.ensures
