-- `page::writing::put_line` meets its contract: each text is laid over the line.
use mathlib.Core.Path.{ap}
use mathlib.Core.List.{[], ◌∷◌}
use Prim.Native.Nat.{ℕ}
use Rattle.text.proofs.Texts.{whole, spelt}
use Rattle.page.proofs.Lines.{placed_line}
use Rattle.page.proofs.writing.put_line.Goals as goal

pub returns : goal.returns
returns c =
    placed_line c.args.l c.args.buf.now c.clear_line.ensures c.put_hex_entry.ensures c.put_number_entry.ensures c.put_hex_entry-2.ensures c.put_hex_entry-3.ensures (whole (spelt c.letters.ensures c.put_bytes.ensures)) (whole (spelt (ap (λ (b : ℕ). b ∷ []) c.sign.ensures) c.put_byte.ensures))
