-- `tables::part_at` meets its contract.
use mathlib.Core.Path.{◌≡◌, refl, sym}
use Prim.Native.Nat.{◌+◌, ◌-◌}
use native.Mathlib.Omega.{arith}
use Rattle.srp.specs.Descriptors.{standing_size_lem}
use Rattle.srp.proofs.Segments.{fetched_short}
use Rattle.command.proofs.Judged.{fields_right}
use Rattle.words.specs.View.{given_of}
use Rattle.tables.proofs.part_at.Goals as goal

pub returns : goal.returns
returns c =
    let a = c.args in
    let n : a.at + standing_size_lem a.d - a.at ≡ standing_size_lem a.d = omega arith in
    let F = rw (c.standing_size.ensures, n) at c.in_ok-total.ensures in
    let q = fields_right (given_of a.store.now a.at a.d) a.table.now c.in_ok-total.total (sym F.0) in
    rw (c.new_part.ensures, c.segment_count.ensures.0, q.1)
    (record {
      good = q.0;
      part = refl;
      whole = F.1.1;
      holding = record { short = omega (arith, c.requires.table_len, fetched_short a.d); few = rw c.segment_count.ensures.0 at c.segment_count.ensures.1; counted = omega arith };
    })
