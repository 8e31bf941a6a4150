-- `cutlist::print_buffer` meets its contract: its segments are as the buffer says.
use native.Mathlib.Omega.{arith}
use Rattle.cutlist.proofs.print_buffer.Goals as goal

pub print_operations-requires : goal.print_operations-requires
print_operations-requires g c =
    rw (c.segment_list-list.ensures, c.standing.ensures.0) record { list_value = c.requires.reach; total_bound = omega (arith, c.requires.total) }
