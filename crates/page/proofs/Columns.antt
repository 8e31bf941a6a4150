-- The line from left to right: every column has what the paper puts there, and no text reaches into another's columns.
-- Assumes nothing.
use mathlib.Core.Path.{◌≡◌, refl, sym, ap, ◌∙◌}
use mathlib.Core.List.{List, [], ◌∷◌, ◌++◌, append_assoc}
use Prim.Native.Nat.{ℕ, ◌+◌}
use lib.ListN.{length, take, drop, length-replicate, replicate-append-replicate}
use lib.Seq.{take_at, drop_at}
use Rattle.std.specs.Prelude.{Option, Some, None}
use Rattle.srp.specs.Outside.{hex}
use Rattle.text.proofs.Digits.{length_hex}
use Rattle.page.specs.Page.{sign, letters, spaces, padded, count_text_lem, hex_text, number_text, over, hex_columns, number_columns, InColumns}
use Rattle.page.proofs.Lines.{over_nothing, letters_long, count_long}

-- ── a text, or nothing, over spaces

module _ (at k : ℕ) (m : List ℕ) where
  laid : (t : List ℕ) → length t ≡ k → over at t (spaces (at + k) ++ m) ≡ spaces at ++ (t ++ m)
  laid t e =
      let s : spaces (at + k) ++ m ≡ spaces at ++ (spaces k ++ m) = ap (λ (x : List ℕ). x ++ m) (sym (replicate-append-replicate at k 0x20)) ∙ append_assoc (spaces at) (spaces k) m in
      let front : take at (spaces (at + k) ++ m) ≡ spaces at = ap (take at) s ∙ take_at (spaces at) (spaces k ++ m) at (length-replicate at 0x20) in
      let back : drop (at + length t) (spaces (at + k) ++ m) ≡ m = ap (λ (n : ℕ). drop (at + n) (spaces (at + k) ++ m)) e ∙ drop_at (spaces (at + k)) m (at + k) (length-replicate (at + k) 0x20) in
      ap (λ (x : List ℕ). x ++ (t ++ drop (at + length t) (spaces (at + k) ++ m))) front ∙ ap (λ (x : List ℕ). spaces at ++ (t ++ x)) back

  left : over at [] (spaces (at + k) ++ m) ≡ spaces at ++ (spaces k ++ m)
  left =
      sym (over_nothing at (spaces (at + k) ++ m))
      ∙ ap (λ (x : List ℕ). x ++ m) (sym (replicate-append-replicate at k 0x20))
      ∙ append_assoc (spaces at) (spaces k) m

  hex_laid : (e : Option ℕ) → over at (hex_text k e) (spaces (at + k) ++ m) ≡ spaces at ++ (hex_columns k e ++ m)
  hex_laid None = left
  hex_laid (Some n) = laid (hex k n) (length_hex k n)

number_laid : (at : ℕ) (m : List ℕ) (e : Option ℕ) → over at (number_text e) (spaces (at + 5) ++ m) ≡ spaces at ++ (number_columns e ++ m)
number_laid at m None = left at 5 m
number_laid at m (Some n) = laid at 5 m (count_text_lem n) (count_long n)

-- ── the line

pub in_columns : InColumns
in_columns l =
    let mark : List ℕ = sign l.way ∷ [] in
    let name : List ℕ = padded 12 (letters l.name) in
    let from56 : List ℕ = hex_columns 8 l.code ++ spaces 17 in
    let from50 : List ℕ = number_columns l.number ++ (0x20 ∷ from56) in
    let from33 : List ℕ = hex_columns 16 l.lun ++ (0x20 ∷ from50) in
    let from16 : List ℕ = hex_columns 16 l.tag ++ (0x20 ∷ from33) in
    ap (λ (x : List ℕ). over 0 mark (over 2 name (over 15 (hex_text 16 l.tag) (over 32 (hex_text 16 l.lun) (over 49 (number_text l.number) x)))))
    (hex_laid 55 8 (spaces 17) l.code)
    ∙ ap (λ (x : List ℕ). over 0 mark (over 2 name (over 15 (hex_text 16 l.tag) (over 32 (hex_text 16 l.lun) x)))) (number_laid 49 (0x20 ∷ from56) l.number)
    ∙ ap (λ (x : List ℕ). over 0 mark (over 2 name (over 15 (hex_text 16 l.tag) x))) (hex_laid 32 16 (0x20 ∷ from50) l.lun)
    ∙ ap (λ (x : List ℕ). over 0 mark (over 2 name x)) (hex_laid 15 16 (0x20 ∷ from33) l.tag)
    ∙ ap (over 0 mark) (laid 2 12 (0x20 ∷ from16) name (letters_long l.name))
    ∙ laid 0 1 (0x20 ∷ (name ++ (0x20 ∷ from16))) mark refl
