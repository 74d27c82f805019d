-- `column_in` is safe and ends.
use Rattle.std.proofs.Common.{◌≡◌, ◌-◌, ◌≤◌, length}
use Rattle.distance_test.proofs.clusters.column_in.Given as goal

abbrev pub invariant-loop-n : goal.invariant-loop-n
invariant-loop-n l = (length l.column ≡ 248) × (l.n ≤ 248)

abbrev pub decreases-loop-n : goal.decreases-loop-n
decreases-loop-n l = 248 - l.n
