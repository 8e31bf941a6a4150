-- Document 02, job 14, what is shown of the counts, as statements: the formula, f, and what byte 5 does in a message. The paper's numbers are in Rows.antt.
use Rattle.std.specs.Prelude.{◌≡◌, Bool, not, ◌&&◌, List, ℕ, ◌+◌, ◌/◌, ◌%◌, ◌≤◌, eqb, length, get_or}
use Rattle.std.proofs.Math.Option.{Option, none, some}
use Rattle.srp.specs.Limits.{shortest_command}
use Rattle.srp.specs.Bytes.{bit}
use Rattle.srp.specs.Refusals.{first_of_checks}
use Rattle.srp.specs.Requests.{command_checks, size_checks}
use Rattle.srp.specs.declared.Refusal.{Refusal}
use Rattle.division.specs.Dividing.{drawn, values, count, division, allowed, formula}
use Rattle.division.specs.declared.Division.{Division}

-- the values are the pairs of two digits from 0 to 15: how they divide where a test t says which digits are allowed
abbrev pub pairs_by : (t : ℕ → Bool) → Division
pairs_by t =
    record {
      pass = count (λ b. t (b / 16) && t (b % 16)) values;
      out = count (λ b. not (t (b / 16))) values;
      inn = count (λ b. t (b / 16) && not (t (b % 16))) values;
    }

-- "The formula is shown equal to the count once, over f": whichever digits are allowed, f is how many
abbrev pub OverF : Type 0
OverF = (t : ℕ → Bool) → pairs_by t ≡ formula (count t 16)

-- so of every agreement
abbrev pub ByFormula : Type 0
ByFormula = (formats : ℕ) → division formats ≡ formula (allowed formats)

-- "f formats allowed (format 0 always is)": besides it, each whose bit is agreed
abbrev pub Allowed : Type 0
Allowed = (formats : ℕ) → allowed formats ≡ 1 + (bit (eqb (formats / 2 % 2) 1) + bit (eqb (formats / 4 % 2) 1))

abbrev pub otherwise : Option Refusal → Option Refusal → Option Refusal
otherwise none rest = rest
otherwise (some r) rest = some r

-- "in a message whose length never decides": a command of 48 bytes or more draws what its byte 5 draws; where that passes, what its exact length and its
-- counts draw
abbrev pub InMessage : Type 0
InMessage = (formats : ℕ) (s : List ℕ) → shortest_command ≤ length s
    → first_of_checks (command_checks formats s) ≡ otherwise (drawn formats (get_or s 5 0)) (first_of_checks (size_checks s))
