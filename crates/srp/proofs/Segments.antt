-- A command that was taken has at most 32 segments each way; so how many operations one of its moves has at most.
-- Assumes nothing.
use mathlib.Core.Path.{◌≡◌, refl, ap}
use mathlib.Core.Bool.{Bool, true, false, cond, not, ◌&&◌, ◌||◌}
use mathlib.Core.List.{List, []}
use Prim.Native.Nat.{ℕ, zero, suc, ◌+◌, ◌-◌, ◌*◌, ◌/◌, ◌^◌, ◌≤◌}
use native.Mathlib.Omega.{arith}
use lib.Dec.{leb, eqb}
use lib.ListN.{length, take, drop, length-take}
use borrow.Author.Tests.{leb-true, eqb-true}
use Rattle.srp.specs.Limits.{most_copies, longest_table}
use Rattle.srp.specs.Descriptors.{Segment, segments_in, good_table_lem, whole, fetched, copies, standing, standing_size_lem, Given, chosen, segments, good_indirect, good_format}
use Rattle.srp.specs.Cutting.{cuts_of}
use Rattle.srp.specs.Credit.{rule_of}
use Rattle.srp.specs.Fewest.{touched, crossed}
use Rattle.srp.specs.Ranges.{most_operations, OperationsAtMost}
use Rattle.srp.specs.declared.Descriptor.{Descriptor}
use Rattle.srp.proofs.FieldLaws.{both}
use Rattle.srp.proofs.Bound.{quotient_grows, cuts_bound, few_touched, few_crossed}

pub segments_count : (n : ℕ) (l : List ℕ) → length (segments_in n l) ≡ n
segments_count zero l = refl
segments_count (suc n) l = ap suc (segments_count n (drop 16 l))

table_short : (n : ℕ) → good_table_lem n ≡ true → n ≤ longest_table
table_short n e = leb-true n longest_table (both (leb n longest_table) _ (both (leb 16 n) _ e).1).0

-- F is at most 512
pub fetched_short : (d : Descriptor) → fetched d ≤ longest_table
fetched_short d = go (eqb d.format 2 && (good_table_lem d.len && not (whole d))) refl
  where
    go : (b : Bool) → (eqb d.format 2 && (good_table_lem d.len && not (whole d))) ≡ b → cond b d.len 0 ≤ longest_table
    go true e = table_short d.len (both (good_table_lem d.len) (not (whole d)) (both (eqb d.format 2) _ e).1).0
    go false e = omega arith

-- of at most 32 copies no more than 512 bytes stand in a message
pub standing_short : (d : Descriptor) → d.count ≤ most_copies → standing_size_lem d ≤ longest_table
standing_short d h = go (eqb d.format 1) (eqb d.format 2)
  where
    go : (x y : Bool) → cond x 16 (cond y (16 * d.count) 0) ≤ longest_table
    go true y = omega arith
    go false true = omega arith
    go false false = omega arith

-- a message has no more of a direction's memory descriptors than its descriptor says
pub given_short : (d : Descriptor) (s : List ℕ) → length (standing d s) ≤ standing_size_lem d
given_short d s = go (eqb d.format 1) (eqb d.format 2)
  where
    go : (x y : Bool) → length (cond x (take 16 (drop d.at s)) (cond y (copies d s) [])) ≤ cond x 16 (cond y (16 * d.count) 0)
    go true y = omega (arith, length-take 16 (drop d.at s))
    go false true = omega (arith, length-take (16 * d.count) (drop (d.at + 20) s))
    go false false = omega arith

-- so a direction has at most 32 segments, where its format has no bad field and the lent table is as long as was fetched
pub few_segments : (g : Given) (table : List ℕ) → length g.bytes ≤ standing_size_lem g.descriptor → good_format g table ≡ true
    → length table ≡ fetched g.descriptor → length (segments g table) ≤ most_copies
few_segments g table r good e =
    omega (arith, segments_count (length (chosen g table) / 16) (chosen g table), short (eqb d.format 1) (eqb d.format 2) (whole d) refl r good)
  where
    d : Descriptor
    d = g.descriptor

    short : (x y w : Bool) → whole d ≡ w → length g.bytes ≤ cond x 16 (cond y (16 * d.count) 0) → (not y || good_indirect g table) ≡ true
        → length (cond y (cond w g.bytes table) g.bytes) ≤ longest_table
    short true true true f h q = omega arith
    short false true true f h q = omega (arith, eqb-true d.len (16 * d.count) f, table_short d.len (both (good_table_lem d.len) _ q).0)
    short x true false f h q = omega (arith, e, fetched_short d)
    short true false w f h q = omega arith
    short false false w f h q = omega arith

-- ── a move's operations

-- of at most 32 segments, those with a byte in a move, its bytes divided by M and the multiples of Q inside are within the bound
pub slots_enough : (M Q from to : ℕ) (ss : List Segment) → length ss ≤ most_copies
    → touched 0 from to ss + (to - from) / M + crossed Q 0 from to ss ≤ most_operations M Q (to - from)
slots_enough M Q from to ss few = go (eqb Q 0) (few_crossed Q from to ss)
  where
    t : ℕ
    t = touched 0 from to ss

    k : ℕ
    k = crossed Q 0 from to ss

    go : (b : Bool) → k ≤ cond b 0 (t + (to - from) / Q) → t + (to - from) / M + k ≤ most_copies + (to - from) / M + cond b 0 (most_copies + (to - from) / Q)
    go true e = omega (arith, few_touched 0 from to ss)
    go false e = omega (arith, few_touched 0 from to ss)

-- more bytes have no fewer
more_slots : (M Q m n : ℕ) → m ≤ n → most_operations M Q m ≤ most_operations M Q n
more_slots M Q m n h = go (eqb Q 0)
  where
    d : (K : ℕ) → m / K ≤ n / K
    d K = let e : n ≡ m + (n - m) = omega arith in rw e (quotient_grows K m (n - m))

    go : (b : Bool) → most_copies + m / M + cond b 0 (most_copies + m / Q) ≤ most_copies + n / M + cond b 0 (most_copies + n / Q)
    go true = omega (arith, d M)
    go false = omega (arith, d M, d Q)

pub operations_at_most : OperationsAtMost
operations_at_most T s from to m r h =
    let M = T.maximum in
    let Q = T.boundary in
    let ss = s.extent.segs in
    let n : length (cuts_of (rule_of T) from to ss) ≤ most_operations M Q (to - from) = omega (arith, cuts_bound M Q from to ss m, slots_enough M Q from to ss r.extent.few) in
    (n, omega (arith, n, more_slots M Q (to - from) (2 ^ 32 - 1) (omega (arith, r.extent.small))))
