-- `sync_numbers` is safe and ends.
use Rattle.std.proofs.Common.{◌-◌, ◌≤◌}
use Rattle.frame_test.proofs.sync_numbers.Given as goal

abbrev pub invariant-loop-n : goal.invariant-loop-n
invariant-loop-n l = l.n ≤ 62

abbrev pub decreases-loop-n : goal.decreases-loop-n
decreases-loop-n l = 62 - l.n
