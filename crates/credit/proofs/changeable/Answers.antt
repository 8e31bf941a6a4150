-- `credit::changeable` meets its contract.
use mathlib.Core.List.{[], ◌∷◌}
use lib.Dec.{eqb}
use Rattle.srp.specs.Take.{closed}
use Rattle.srp.specs.declared.Refusal.TheVariants.{Argument}
use Rattle.words.specs.View.{view}
use Rattle.state.proofs.Drawn.{drawn_first, handed}
use Rattle.credit.specs.Buffers.{MayChange}
use Rattle.credit.proofs.changeable.Goals as goal

pub returns-in_err-h : goal.returns-in_err-h
returns-in_err-h c =
    let a = c.args in
    handed (MayChange a.s.now a.k) c.from_residual.result c.from_residual.ensures.1
    (λ st. drawn_first (closed (view a.s.now st) ∷ []) ((eqb a.k 0, Argument) ∷ []) (c.in_err-h.ensures st))
