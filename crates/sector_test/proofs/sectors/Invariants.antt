-- `sectors` is safe and ends.
use Rattle.std.proofs.Common.{◌-◌, ◌≤◌}
use Rattle.sector_test.proofs.sectors.Given as goal

abbrev pub invariant-loop-s : goal.invariant-loop-s
invariant-loop-s l = l.s ≤ 32

abbrev pub decreases-loop-s : goal.decreases-loop-s
decreases-loop-s l = 32 - l.s
