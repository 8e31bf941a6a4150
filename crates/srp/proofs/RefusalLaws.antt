-- The refusals' numbers.
-- Assumes nothing.
use mathlib.Core.Path.{◌≡◌, refl, sym, ◌∙◌, ap}
use mathlib.Core.Option.{some, some-injective}
use Prim.Native.Nat.{◌<◌}
use native.Mathlib.Omega.{arith}
use Rattle.srp.specs.Refusals.{number_of, refusal_numbered}
use Rattle.srp.specs.declared.Refusal.{Refusal}
use Rattle.srp.specs.declared.Refusal.TheVariants.{ShortBuffer, Setting, Length, OtherType, OutFormat, InFormat, OutCount, InCount, TableLength, Fields, Argument, Closed, NoCredit, TagOpen, TagNotOpen, CreditResponse, Unanswered, NotOwed, Wanted, Unplanned, Planned, Offset, Unfinished, Waiting}

-- each has at most three digits and is not 0, which says that nothing is refused
pub number_range : (r : Refusal) → (0 < number_of r) × (number_of r < 1000)
number_range ShortBuffer = omega arith
number_range Setting = omega arith
number_range Length = omega arith
number_range OtherType = omega arith
number_range OutFormat = omega arith
number_range InFormat = omega arith
number_range OutCount = omega arith
number_range InCount = omega arith
number_range TableLength = omega arith
number_range Fields = omega arith
number_range Argument = omega arith
number_range Closed = omega arith
number_range NoCredit = omega arith
number_range TagOpen = omega arith
number_range TagNotOpen = omega arith
number_range CreditResponse = omega arith
number_range Unanswered = omega arith
number_range NotOwed = omega arith
number_range Wanted = omega arith
number_range Unplanned = omega arith
number_range Planned = omega arith
number_range Offset = omega arith
number_range Unfinished = omega arith
number_range Waiting = omega arith

-- each is found by its number, so no two have the same
pub numbered : (r : Refusal) → refusal_numbered (number_of r) ≡ some r
numbered ShortBuffer = refl
numbered Setting = refl
numbered Length = refl
numbered OtherType = refl
numbered OutFormat = refl
numbered InFormat = refl
numbered OutCount = refl
numbered InCount = refl
numbered TableLength = refl
numbered Fields = refl
numbered Argument = refl
numbered Closed = refl
numbered NoCredit = refl
numbered TagOpen = refl
numbered TagNotOpen = refl
numbered CreditResponse = refl
numbered Unanswered = refl
numbered NotOwed = refl
numbered Wanted = refl
numbered Unplanned = refl
numbered Planned = refl
numbered Offset = refl
numbered Unfinished = refl
numbered Waiting = refl

pub number_injective : (r s : Refusal) → number_of r ≡ number_of s → r ≡ s
number_injective r s e = some-injective r s (sym (numbered r) ∙ ap refusal_numbered e ∙ numbered s)
