-- What a message comes to, and the text of that.
use Rattle.std.specs.Prelude.{◌≡◌, true, cond, not, List, [], ◌++◌, ℕ, Result, Ok, Err}
use Rattle.srp.specs.Limits.{longest_agreed, both_formats}
use Rattle.srp.specs.Refusals.{first_of_checks, unless_bad}
use Rattle.srp.specs.Descriptors.{given, segments, sum_of, reachable}
use Rattle.srp.specs.Requests.{look_checks, command_of_lem}
use Rattle.srp.specs.Take.{no_tables, given_in, waits, fields_fit}
use Rattle.srp.specs.Outside.{refused_line, fetch_line}
use Rattle.srp.specs.declared.Refusal.{Refusal}
use Rattle.srp.specs.declared.Refusal.TheVariants.{Fields}
use Rattle.srp.specs.declared.Kind.{Kind}
use Rattle.srp.specs.declared.Kind.TheVariants.{Read, Write}
use Rattle.srp.specs.declared.Command.{Command}
use Rattle.srp.specs.declared.Descriptor.{Descriptor}
use Rattle.command.specs.Reading.{LiesIn}
use Rattle.cutlist.specs.Lines.{lines_from}
use Rattle.cutlist.specs.declared.output.Buffer.{Buffer}
use Rattle.cutlist.specs.declared.output.Output.{Output}
use Rattle.cutlist.specs.declared.output.Output.TheVariants.{Fetch, Operations}

abbrev pub buffer_of : Descriptor → List ℕ → Buffer
buffer_of d s = record { descriptor = d; total = sum_of (segments (given d s) []) }

abbrev pub Outcome : Type 0
Outcome = Result Output Refusal

-- of a command that look takes: ""fetch" only, ahead of 10"
abbrev pub operations_of : Command → List ℕ → Outcome
operations_of c s =
    cond (waits c) (Ok Fetch)
    (cond (not (fields_fit (given_in c s) no_tables)) (Err Fields) (Ok (Operations (buffer_of c.out s) (buffer_of c.inn s))))

abbrev pub output_of_lem : List ℕ → Outcome
output_of_lem s = unless_bad (first_of_checks (look_checks longest_agreed both_formats s)) (operations_of (command_of_lem s) s)

-- a buffer inside the message s, whose segments end by 2^64
pub record Ready (s : List ℕ) (b : Buffer) : Type 0 where
  pub within : LiesIn s b.descriptor
  pub reach : reachable (segments (given b.descriptor s) []) ≡ true
  pub total : b.total ≡ sum_of (segments (given b.descriptor s) [])

-- what is known when no check hit
abbrev pub Printable : List ℕ → Outcome → Type 0
Printable s (Err r) = Unit {0}
Printable s (Ok Fetch) = Unit {0}
Printable s (Ok (Operations out inn)) = Ready s out × Ready s inn

abbrev pub lines_of : Kind → Buffer → List ℕ → List ℕ
lines_of k b s = lines_from k 0 b.total (segments (given b.descriptor s) [])

-- what is printed
abbrev pub text_of : Outcome → List ℕ → List ℕ
text_of (Err r) s = refused_line r
text_of (Ok Fetch) s = fetch_line
text_of (Ok (Operations out inn)) s = lines_of Read out s ++ lines_of Write inn s
