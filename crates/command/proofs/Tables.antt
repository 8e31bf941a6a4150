-- Parts of a list, the copies of a table's first entries, and a command that does not wait.
-- Assumes nothing.
use Rattle.std.proofs.Common.{◌≡◌, refl, ℕ, ◌+◌, ◌-◌, ◌<◌, false, List, [], ◌∷◌, length, take, drop, eqb, arith}
use mathlib.Core.Bool.{and-false}
use borrow.Author.Tests.{eqb-true, not-false}
use Rattle.srp.specs.Descriptors.{fetched, same_bytes}
use Rattle.srp.specs.Take.{waits}
use Rattle.srp.specs.declared.Command.{Command}
use Rattle.srp.proofs.FieldLaws.{both}

-- a part between two bounds
pub part : (at n : ℕ) (s : List ℕ) → take (at + n - at) (drop at s) ≡ take n (drop at s)
part at n s = let e : at + n - at ≡ n = omega arith in rw e

-- a list has no longer beginning
pub longer_differs : (a b : List ℕ) → length b < length a → false ≡ same_bytes a (take (length a) b)
longer_differs [] b h = absurd (omega arith)
longer_differs (x ∷ xs) [] h = refl
longer_differs (x ∷ xs) (y ∷ ys) h = rw (← longer_differs xs ys (omega arith), and-false)

-- a command that does not wait has no table to fetch
pub none_awaited : (c : Command) → waits c ≡ false → (fetched c.out ≡ 0) × (fetched c.inn ≡ 0)
none_awaited c e =
    let q = both (eqb (fetched c.out) 0) (eqb (fetched c.inn) 0) (not-false _ e) in
    (eqb-true (fetched c.out) 0 q.0, eqb-true (fetched c.inn) 0 q.1)
