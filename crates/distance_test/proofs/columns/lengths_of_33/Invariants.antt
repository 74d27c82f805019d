-- `lengths_of_33` is safe and ends.
use Rattle.std.proofs.Common.{◌-◌, ◌≤◌}
use Rattle.distance_test.proofs.columns.lengths_of_33.Given as goal

abbrev pub invariant-loop-zeros : goal.invariant-loop-zeros
invariant-loop-zeros l = l.zeros ≤ 223

abbrev pub decreases-loop-zeros : goal.decreases-loop-zeros
decreases-loop-zeros l = 223 - l.zeros
