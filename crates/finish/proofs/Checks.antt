-- The checks of finish behind those of its buffer, the channel and the sense.
-- Assumes nothing.
use mathlib.Core.Path.{◌≡◌, ◌∙◌}
use mathlib.Core.Bool.{true, false}
use mathlib.Core.List.{List, []}
use Prim.Native.Nat.{ℕ, ◌≤◌}
use lib.Dec.{ltb}
use lib.ListN.{length}
use borrow.Author.Tests.{le-ltb, ltb-false}
use Rattle.std.specs.Prelude.{Result, Ok, Err}
use Rattle.srp.specs.Limits.{buffer_size, longest_sense}
use Rattle.srp.specs.Calls.{bad_sense_lem}
use Rattle.srp.specs.declared.Refusal.{Refusal}
use Rattle.srp.proofs.Checks.{both_false}
use Rattle.words.specs.Head.{head_of}
use Rattle.words.proofs.Ports.{view_live}
use Rattle.state.specs.Opening.{ReadyIs}
use Rattle.state.proofs.Waiting.{found_draws}
use Rattle.finish.specs.Finishing.{MayFinish}

module _ (l : List ℕ) (tag status : ℕ) (sense : List ℕ) (room : ℕ) where
  -- 24, 33 or none
  pub by_ready : (head_of l).live ≡ true → buffer_size ≤ room → bad_sense_lem status sense ≡ false → (r : Result ℕ Refusal) → ReadyIs l tag r
      → MayFinish l tag status sense room r
  by_ready live enough good (Ok i) R =
      record {
        live = live;
        found = R.found;
        enough = enough;
        short = ltb-false longest_sense (length sense) (both_false (ltb longest_sense (length sense)) _ good).0;
        passes = λ st. rw (le-ltb room buffer_size enough, view_live l st ∙ live, good) (found_draws R.found live st R.ready []);
      }
  by_ready live enough good (Err f) R = λ st. rw (le-ltb room buffer_size enough, view_live l st ∙ live, good) (R live st)
