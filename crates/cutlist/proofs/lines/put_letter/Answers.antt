-- `cutlist::lines::put_letter` meets its contract: one byte, and another behind it.
use Rattle.text.proofs.Texts.{then, spelt}
use mathlib.Core.Path.{ap}
use mathlib.Core.List.{[], ◌∷◌}
use Prim.Native.Nat.{ℕ}
use Rattle.cutlist.proofs.lines.put_letter.Goals as goal

pub returns : goal.returns
returns c =
    spelt (ap (λ (l : ℕ). l ∷ 0x20 ∷ []) c.letter_of.ensures) (then c.put_byte-end.ensures c.put_byte.ensures)
