-- `right_rows` is safe and ends.
use Rattle.std.proofs.Common.{◌-◌, ◌≤◌}
use Rattle.column_test.proofs.right_rows.Given as goal

abbrev pub invariant-loop-n : goal.invariant-loop-n
invariant-loop-n l = l.n ≤ 2048

abbrev pub decreases-loop-n : goal.decreases-loop-n
decreases-loop-n l = 2048 - l.n
