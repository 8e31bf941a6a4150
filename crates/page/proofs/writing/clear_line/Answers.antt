-- `page::writing::clear_line` meets its contract: the spaces, and the line feed behind them.
use mathlib.Core.Path.{◌≡◌, sym, ap}
use mathlib.Core.List.{List, ◌++◌}
use Prim.Native.Nat.{ℕ}
use native.Mathlib.Omega.{arith}
use lib.ListN.{length, take, drop, replicate}
use lib.Seq.{length-take-le}
use Rattle.std.proofs.Common.{rules}
use Rattle.page.proofs.Lines.{fed}
use Rattle.page.proofs.writing.clear_line.Goals as goal

pub slice_bounds-fill-end-2 : goal.slice_bounds-fill-end-2
slice_bounds-fill-end-2 c = sym (length-take-le 80 c.args.buf.now (omega arith))

pub returns : goal.returns
returns c =
    let wide : length (take 80 c.args.buf.now) ≡ 80 = length-take-le 80 c.args.buf.now (omega arith) in
    let filled : c.fill.new.self ≡ replicate (length (take 80 c.args.buf.now)) 0x20 = search rules in
    fed (c.fill.new.self ++ drop 80 c.args.buf.now) c.args.buf.now c.requires (ap (λ (l : List ℕ). l ++ drop 80 c.args.buf.now) (rw wide at filled))
