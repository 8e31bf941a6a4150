-- What a function that writes a text behind another promises.
use Rattle.std.specs.Prelude.{◌≡◌, List, ◌++◌, ℕ, ◌+◌, ◌≤◌, length, take, drop}

-- behind the first `at` bytes of a text stands what was added, up to `end`, and then what stood there before
pub record Appends (before : List ℕ) (at : ℕ) (added after : List ℕ) (end : ℕ) : Type 0 where
  pub long : end ≡ at + length added
  pub room : end ≤ length after
  pub text : take end after ≡ take at before ++ added
  pub rest : drop end after ≡ drop end before
