-- `vectors` is safe and ends.
use Prim.Native.Nat.{◌≤◌, ◌-◌}
use Rattle.column_parity_test.proofs.vectors.Given as goal

abbrev pub invariant-loop-n : goal.invariant-loop-n
invariant-loop-n l = l.n ≤ 224

abbrev pub decreases-loop-n : goal.decreases-loop-n
decreases-loop-n l = 224 - l.n
