-- `cutlist::lines::put_refusal` meets its contract: the word, and the refusal's number behind it.
use mathlib.Core.Path.{ap}
use mathlib.Core.List.{[], ◌∷◌, ◌++◌}
use Prim.Native.Nat.{ℕ}
use native.Mathlib.Omega.{arith}
use Rattle.srp.specs.Outside.{decimal}
use Rattle.text.proofs.Texts.{then, spelt}
use Rattle.srp.proofs.RefusalLaws.{number_range}
use Rattle.cutlist.proofs.lines.put_refusal.Goals as goal

pub put_last-requires : goal.put_last-requires
put_last-requires c =
    omega (arith, c.number_of.ensures, number_range c.args.refusal)

pub returns : goal.returns
returns c =
    then c.put_bytes-number_at.ensures (spelt (ap (λ (n : ℕ). decimal n ++ (0x0a ∷ [])) c.number_of.ensures) c.put_last.ensures)
