-- Worked values and agreements. They guard `drawn`, `division`, `allowed` and `divide_def`.
use Rattle.std.specs.Prelude.{◌≡◌, List, [], ◌∷◌, ℕ, Ok, Err}
use Rattle.std.proofs.Math.Option.{Option, none, some}
use Rattle.srp.specs.Lists.{All}
use Rattle.srp.specs.declared.Refusal.{Refusal}
use Rattle.srp.specs.declared.Refusal.TheVariants.{Setting, OutFormat, InFormat}
use Rattle.division.specs.Dividing.{drawn, allowed, Divided, divide_def}

-- agreed formats, a value of byte 5, and what it draws
pub record Value : Type 0 where
  pub formats : ℕ
  pub byte : ℕ
  pub draws : Option Refusal

abbrev pub value : ℕ → ℕ → Option Refusal → Value
value formats byte draws = record { formats = formats; byte = byte; draws = draws }

abbrev pub worked : List Value
worked =
    -- format 0 both ways, whatever is agreed
    value 0x0000 0x00 none
    ∷ value 0x0006 0x00 none
    -- a format that is not agreed, out and in; both ways the out format is judged first
    ∷ value 0x0000 0x10 (some OutFormat)
    ∷ value 0x0000 0x02 (some InFormat)
    ∷ value 0x0000 0x12 (some OutFormat)
    -- direct alone, and indirect alone
    ∷ value 0x0002 0x11 none
    ∷ value 0x0002 0x12 (some InFormat)
    ∷ value 0x0002 0x21 (some OutFormat)
    ∷ value 0x0004 0x22 none
    ∷ value 0x0004 0x12 (some OutFormat)
    ∷ value 0x0004 0x21 (some InFormat)
    -- both: 1 and 2 pass either way; the lowest and the highest format above 2, in and out
    ∷ value 0x0006 0x12 none
    ∷ value 0x0006 0x22 none
    ∷ value 0x0006 0x23 (some InFormat)
    ∷ value 0x0006 0x2f (some InFormat)
    ∷ value 0x0006 0x30 (some OutFormat)
    ∷ value 0x0006 0xff (some OutFormat)
    ∷ []

abbrev pub EachValue : Type 0
EachValue = All (λ v. drawn v.formats v.byte ≡ v.draws) worked

-- agreed formats, f, and what the call answers
pub record Agreement : Type 0 where
  pub formats : ℕ
  pub f : ℕ
  pub answer : Divided

abbrev pub divides : ℕ → ℕ → ℕ → ℕ → ℕ → Agreement
divides formats f pass out inn = record { formats = formats; f = f; answer = Ok (record { pass = pass; out = out; inn = inn }) }

-- "9, 208, 39 with both agreed, 4, 224, 28 with one, 1, 240, 15 with none"
abbrev pub agreements : List Agreement
agreements = divides 0x0006 3 9 208 39 ∷ divides 0x0002 2 4 224 28 ∷ divides 0x0004 2 4 224 28 ∷ divides 0x0000 1 1 240 15 ∷ []

abbrev pub EachAgreement : Type 0
EachAgreement = All (λ a. (allowed a.formats ≡ a.f) × (divide_def a.formats ≡ a.answer)) agreements

-- bit 0, bits 0 and 1, bit 3, all below bit 3, the highest
abbrev pub others : List ℕ
others = 0x0001 ∷ 0x0003 ∷ 0x0008 ∷ 0x0007 ∷ 0x80000000 ∷ []

abbrev pub EachOther : Type 0
EachOther = All (λ n. divide_def n ≡ Err Setting) others
