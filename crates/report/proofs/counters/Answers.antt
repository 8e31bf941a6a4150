-- `report::counters` meets its contract.
use mathlib.Core.Path.{sym, ◌∙◌}
use Prim.Native.Nat.{◌+◌}
use native.Mathlib.Omega.{arith}
use Rattle.words.specs.View.{view}
use Rattle.words.proofs.Ports.{view_live}
use Rattle.state.proofs.Opened.{wanted_is, announced_is, held_is}
use Rattle.report.proofs.Counted.{difference, counts}
use Rattle.report.proofs.counters.Goals as goal

pub returns : goal.returns
returns c =
    let l = c.args.s.now in
    let h = c.in_ok-h.h in
    let G = c.in_ok-h.ensures.head in
    let e = c.in_ok-h.ensures.live in
    let d = difference h.wanted (h.announced + h.held) (omega (arith, G.fits.counts.most)) (omega (arith, G.fits.counts.room)) in
    λ st. sym (counts (view l st) h.wanted h.announced h.held _ (view_live l st ∙ e) (wanted_is G st e) (announced_is G st e) (held_is G st e) d)
