-- The loop of `rows::run`: what is left of the rows becomes less.
use Rattle.std.proofs.Common.{length, ◌≤◌}
use Rattle.rows.proofs.run.Given as goal

abbrev pub invariant-loop-row : goal.invariant-loop-row
invariant-loop-row g l = length l.rest ≤ length l.s

abbrev pub decreases-loop-row : goal.decreases-loop-row
decreases-loop-row g l = length l.rest
