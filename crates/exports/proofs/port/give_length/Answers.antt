-- `exports::port::give_length` meets its contract.
use mathlib.Core.Path.{sym, ap}
use mathlib.Core.List.{List}
use lib.IntN.{ℤ}
use Rattle.answer.specs.Words.{eight}
use Rattle.exports.proofs.port.give_length.Goals as goal

pub returns : goal.returns
returns c =
    (c.returned.ensures, sym (ap (λ (vs : List ℤ). eight vs) (c.requires c.args.a.wrote)))
