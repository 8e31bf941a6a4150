-- What the walks over memory descriptors answer.
use Rattle.std.specs.Prelude.{ℕ, ◌*◌, ◌≤◌, cond, List}
use Rattle.std.specs.Prelude.{Option as Answered, Some, None}
use Rattle.std.proofs.Math.Option.{Option, none, some}
use Rattle.srp.specs.Descriptors.{Segment, sum_of, reachable}
use Rattle.srp.specs.Cutting.{longest_at_lem, piece}
use Rattle.srp.specs.Calls.{wrapped}
use Rattle.srp.specs.declared.Piece.{Piece}

-- a sum of lengths, none where a field is bad
abbrev pub Total : Type 0
Total = Answered ℕ

-- B, where no segment passes 2^64
abbrev pub total_of : List Segment → Total
total_of ss = cond (reachable ss) (Some (sum_of ss)) None

-- a sum of k lengths of 32 bits
abbrev pub Bounded : ℕ → Total → Type 0
Bounded k (Some n) = n ≤ 4294967295 * k
Bounded k None = Unit {0}

-- the next piece, its address in 64 bits, or done
abbrev pub next_wrapped : Option Piece → Answered Piece
next_wrapped none = None
next_wrapped (some p) = Some (wrapped p)

-- a piece, ended at the next multiple of Q above its first address where that is nearer
abbrev pub ended : (Q : ℕ) → Answered Piece → Answered Piece
ended Q (Some p) = Some (piece p.address p.handle (longest_at_lem p.len Q p.address) p.offset)
ended Q None = None
