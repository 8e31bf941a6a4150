-- `report::held_for` meets its contract.
use mathlib.Core.Path.{refl, ◌∙◌}
use mathlib.Core.List.{[], ◌∷◌}
use lib.ListN.{drop}
use borrow.Author.Tests.{lt-ltb}
use Rattle.srp.specs.Limits.{most_buffers}
use Rattle.srp.specs.Take.{closed}
use Rattle.srp.specs.Calls.{list_checks}
use Rattle.words.specs.View.{view}
use Rattle.words.proofs.Ports.{view_live}
use Rattle.state.proofs.Drawn.{drawn_first, handed}
use Rattle.report.specs.Reports.{HasRoom}
use Rattle.report.proofs.held_for.Goals as goal

pub returns-in_err-h : goal.returns-in_err-h
returns-in_err-h c =
    let a = c.args in
    handed (HasRoom a.s.now a.room) c.from_residual.result c.from_residual.ensures.1
    (λ st. let p = view a.s.now st in drawn_first (closed p ∷ []) (drop 1 (list_checks p a.room)) (c.in_err-h.ensures st))

pub returns-then-room-lt-SLOTS : goal.returns-then-room-lt-SLOTS
returns-then-room-lt-SLOTS c =
    let a = c.args in
    λ st. rw (view_live a.s.now st ∙ c.in_ok-h.ensures.live, lt-ltb a.room most_buffers c.if-room-lt-SLOTS.true) refl
