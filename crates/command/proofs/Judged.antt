-- What the sum of a direction's fields says: they are good, and it is B; without one they are bad.
-- Assumes nothing.
use mathlib.Core.Path.{◌≡◌}
use mathlib.Core.Bool.{true, false}
use mathlib.Core.List.{List}
use Prim.Native.Nat.{ℕ}
use Rattle.srp.specs.Descriptors.{Given, segments, sum_of, good_fields}
use Rattle.std.specs.declared.option.Option.TheVariants.{Some, None}
use Rattle.cut.proofs.Refusing.{no_sum, is_sum}
use Rattle.command.specs.Reading.{fields_of}

module _ (g : Given) (t : List ℕ) where
  -- without a sum they are bad
  pub fields_wrong : fields_of g t ≡ None → good_fields g t ≡ false
  fields_wrong e = no_sum (good_fields g t) (sum_of (segments g t)) e

  -- with a sum they are good, and it is B
  pub fields_right : (k : ℕ) → fields_of g t ≡ Some k → (good_fields g t ≡ true) × (k ≡ sum_of (segments g t))
  fields_right k e = is_sum (good_fields g t) (sum_of (segments g t)) k e
