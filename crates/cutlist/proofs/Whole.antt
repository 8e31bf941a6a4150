-- What document 01 has cutlist print is the text of what the message comes to.
-- Assumes nothing.
use mathlib.Core.Path.{◌≡◌, refl}
use mathlib.Core.Bool.{Bool, true, false, cond, not}
use mathlib.Core.List.{List, [], ◌++◌}
use mathlib.Core.Option.{Option, none, some}
use Prim.Native.Nat.{ℕ}
use Rattle.srp.specs.Limits.{longest_agreed, both_formats}
use Rattle.srp.specs.Refusals.{first_of_checks, unless_bad}
use Rattle.srp.specs.Descriptors.{Segment, given, segments}
use Rattle.srp.specs.Requests.{look_checks, command_of_lem}
use Rattle.srp.specs.Take.{no_tables, given_in, waits, fields_fit}
use Rattle.srp.specs.Outside.{operation_lines, whole_cuts, refused_line, fetch_line, cutlist_of, cutlist}
use Rattle.srp.specs.declared.Refusal.{Refusal}
use Rattle.srp.specs.declared.Refusal.TheVariants.{Fields}
use Rattle.srp.specs.declared.Kind.TheVariants.{Read, Write}
use Rattle.srp.specs.declared.Command.{Command}
use Rattle.cutlist.specs.Outputs.{buffer_of, operations_of, output_of_lem, text_of}
use Rattle.std.specs.declared.result.Result.TheVariants.{Ok, Err}
use Rattle.cutlist.specs.declared.output.Output.TheVariants.{Fetch, Operations}
use Rattle.cutlist.proofs.Filling.{whole_lines}

module _ (s : List ℕ) where
  -- of a command that look takes
  command_text : (c : Command) → cutlist_of c s ≡ text_of (operations_of c s) s
  command_text c = go (waits c) (not (fields_fit (given_in c s) no_tables))
    where
      out : List Segment
      out = segments (given c.out s) []

      inn : List Segment
      inn = segments (given c.inn s) []

      go : (f g : Bool)
          → cond f fetch_line (cond g (refused_line Fields) (operation_lines Read (whole_cuts out) ++ operation_lines Write (whole_cuts inn)))
          ≡ text_of (cond f (Ok Fetch) (cond g (Err Fields) (Ok (Operations (buffer_of c.out s) (buffer_of c.inn s))))) s
      go true g = refl
      go false true = refl
      go false false = λ i. whole_lines Read out i ++ whole_lines Write inn i

  pub cutlist_text : cutlist s ≡ text_of (output_of_lem s) s
  cutlist_text = go (first_of_checks (look_checks longest_agreed both_formats s))
    where
      go : (v : Option Refusal) → elim v as (λ _. List ℕ) [ none ↦ cutlist_of (command_of_lem s) s | some r ↦ refused_line r ]
          ≡ text_of (unless_bad v (operations_of (command_of_lem s) s)) s
      go none = command_text (command_of_lem s)
      go (some r) = refl
