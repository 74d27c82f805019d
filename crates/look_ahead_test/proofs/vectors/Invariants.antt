-- `vectors` is safe and ends.
use Prim.Native.Nat.{◌≤◌, ◌-◌}
use Rattle.look_ahead_test.proofs.vectors.Given as goal

abbrev pub invariant-loop : goal.invariant-loop
invariant-loop l = l.counter ≤ 24

abbrev pub decreases-loop : goal.decreases-loop
decreases-loop l = 24 - l.counter
