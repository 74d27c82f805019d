-- `unseen` is safe and ends.
use Rattle.std.proofs.Common.{◌-◌, ◌≤◌}
use Rattle.column_test.proofs.unseen.Given as goal

abbrev pub invariant-loop-k : goal.invariant-loop-k
invariant-loop-k l = l.k ≤ l.column.size

abbrev pub decreases-loop-k : goal.decreases-loop-k
decreases-loop-k l = l.column.size - l.k
