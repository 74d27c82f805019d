-- `differing` is safe and ends.
use Rattle.std.proofs.Common.{◌-◌, ◌≤◌, length}
use Rattle.test_support.proofs.compare.differing.Given as goal

abbrev pub invariant-loop-k : goal.invariant-loop-k
invariant-loop-k l = l.k ≤ length l.a

abbrev pub decreases-loop-k : goal.decreases-loop-k
decreases-loop-k l = length l.a - l.k
