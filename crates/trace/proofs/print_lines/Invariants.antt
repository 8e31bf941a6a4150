-- `trace::print_lines` ends: each turn leaves less of the part.
use Rattle.std.proofs.Common.{length}
use Rattle.trace.proofs.print_lines.Given as goal

abbrev pub decreases-loop-behind : goal.decreases-loop-behind
decreases-loop-behind g l = length l.left
