-- `sets` is safe and ends.
use Prim.Native.Nat.{◌≤◌, ◌-◌}
use Rattle.order_queue_test.proofs.sets.Given as goal

abbrev pub invariant-loop-set : goal.invariant-loop-set
invariant-loop-set l = l.set ≤ 16

abbrev pub decreases-loop-set : goal.decreases-loop-set
decreases-loop-set l = 16 - l.set
