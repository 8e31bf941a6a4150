-- Document 02, job 14: "where the 256 values of byte 5 lead in a message whose length never decides".
use Rattle.std.specs.Prelude.{Bool, true, false, cond, List, [], ◌∷◌, ℕ, zero, suc, ◌+◌, ◌-◌, ◌*◌, eqb, replicate, Result, Ok, Err}
use Rattle.std.proofs.Math.Option.{Option, none, some}
use Rattle.srp.specs.Limits.{both_formats}
use Rattle.srp.specs.Bytes.{bit}
use Rattle.srp.specs.Refusals.{Check, first_of_checks, unless_bad, number_of}
use Rattle.srp.specs.Descriptors.{agrees}
use Rattle.srp.specs.Requests.{format_checks, other_formats_lem}
use Rattle.srp.specs.declared.Refusal.{Refusal}
use Rattle.srp.specs.declared.Refusal.TheVariants.{Setting, OutFormat, InFormat}
use Rattle.division.specs.declared.Division.{Division}

-- ── a value

-- a message up to byte 5
abbrev pub with_formats : ℕ → List ℕ
with_formats b = 0 ∷ 0 ∷ 0 ∷ 0 ∷ 0 ∷ b ∷ []

-- what byte 5 draws: of a command's checks those on the formats, which read no other byte
abbrev pub drawn : ℕ → ℕ → Option Refusal
drawn formats b = first_of_checks (format_checks formats (with_formats b))

abbrev pub passes : Option Refusal → Bool
passes none = true
passes (some r) = false

abbrev pub draws : Refusal → Option Refusal → Bool
draws f none = false
draws f (some r) = eqb (number_of r) (number_of f)

-- ── all values

-- "the 256 values of byte 5"
abbrev pub values : ℕ
values = 256

-- how many numbers below n pass a test
unfoldable pub count : (ℕ → Bool) → ℕ → ℕ
count p zero = 0
count p (suc n) = bit (p n) + count p n

-- of the values below n, how many pass, draw 5 and draw 6
abbrev pub division_below : ℕ → ℕ → Division
division_below formats n =
    record {
      pass = count (λ b. passes (drawn formats b)) n;
      out = count (λ b. draws OutFormat (drawn formats b)) n;
      inn = count (λ b. draws InFormat (drawn formats b)) n;
    }

-- "A part counts them by going through all values"
abbrev pub division : ℕ → Division
division formats = division_below formats values

-- a format bit other than 1 and 2 draws 2, as look has it
abbrev pub divide_checks : ℕ → List Check
divide_checks formats = (other_formats_lem both_formats formats, Setting) ∷ []

-- the counts, or the refusal
abbrev pub Divided : Type 0
Divided = Result Division Refusal

abbrev pub divide_def : ℕ → Divided
divide_def formats = unless_bad (first_of_checks (divide_checks formats)) (Ok (division formats))

-- ── in C: the number, and the eight words of the answer

abbrev pub divided_number : Divided → ℕ
divided_number (Err r) = number_of r
divided_number (Ok d) = 0

abbrev pub division_words : Division → List ℕ
division_words d = d.pass ∷ d.out ∷ d.inn ∷ replicate 5 0

abbrev pub divided_words : Divided → List ℕ
divided_words (Err r) = replicate 8 0
divided_words (Ok d) = division_words d

-- ── the formula

-- f: "f formats allowed (format 0 always is)", of the 16 that four bits can name
abbrev pub allowed : ℕ → ℕ
allowed formats = count (agrees formats) 16

-- "f times f pass, 16 times (16 - f) draw 5, and f times (16 - f) draw 6"
abbrev pub formula : ℕ → Division
formula f = record { pass = f * f; out = 16 * (16 - f); inn = f * (16 - f) }

-- ── what the parts of the code answer

-- one value more, by what it draws
abbrev pub counted_in : Division → Option Refusal → Division
counted_in d none = record { pass = d.pass + 1; out = d.out; inn = d.inn }
counted_in d (some r) =
    cond (draws OutFormat (some r)) (record { pass = d.pass; out = d.out + 1; inn = d.inn }) (record { pass = d.pass; out = d.out; inn = d.inn + 1 })
