-- `combine` is safe and ends.
use Rattle.std.proofs.Common.{◌≡◌, ◌-◌, ◌≤◌, length}
use Rattle.test_support.proofs.compare.combine.Given as goal

abbrev pub invariant-loop-k : goal.invariant-loop-k
invariant-loop-k l = (length l.bytes ≡ length l.initial.bytes) × (l.k ≤ length l.others)

abbrev pub decreases-loop-k : goal.decreases-loop-k
decreases-loop-k l = length l.others - l.k
