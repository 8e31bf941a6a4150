-- `credit::grantable` meets its contract.
use mathlib.Core.Path.{refl, ◌∙◌}
use mathlib.Core.List.{[], ◌∷◌}
use Prim.Native.Nat.{◌+◌, ◌-◌}
use native.Mathlib.Omega.{arith}
use lib.ListN.{drop}
use borrow.Author.Tests.{eq-eqb, ne_eqb, lt-ltb, le-ltb}
use Rattle.srp.specs.Limits.{buffer_size}
use Rattle.srp.specs.Calls.{grant_checks}
use Rattle.srp.specs.Take.{closed}
use Rattle.words.specs.View.{view}
use Rattle.state.proofs.Drawn.{drawn_first, handed}
use Rattle.credit.specs.Buffers.{MayGrant}
use Rattle.credit.proofs.Cases.{granting}
use Rattle.credit.proofs.grantable.Goals as goal

pub returns-then-room : goal.returns-then-room
returns-then-room c = λ st. rw (lt-ltb c.args.room buffer_size c.if-room.true) refl

pub returns-in_err-h : goal.returns-in_err-h
returns-in_err-h c =
    let a = c.args in
    handed (MayGrant a.s.now a.room) c.from_residual.result c.from_residual.ensures.1
    (λ st. let p = view a.s.now st in rw (le-ltb a.room buffer_size c.if-room.false) (drawn_first (closed p ∷ []) (drop 2 (grant_checks p a.room)) (c.in_err-h.ensures st)))

pub returns-then-h-2 : goal.returns-then-h-2
returns-then-h-2 c =
    let h = c.in_ok-h.h in
    λ st. granting c.in_ok-h.ensures c.args.room c.if-room.false st ∙ rw (c.if-h.false, eq-eqb (h.wanted - (h.announced + h.held)) 0 (omega (arith, c.if-h-2.true))) refl

pub returns : goal.returns
returns c =
    let h = c.in_ok-h.h in
    record {
      head = c.in_ok-h.ensures;
      enough = c.if-room.false;
      passes = λ st. granting c.in_ok-h.ensures c.args.room c.if-room.false st ∙ rw (c.if-h.false, ne_eqb (h.wanted - (h.announced + h.held)) 0 (λ z. omega (arith, z, c.if-h-2.false))) refl;
    }
