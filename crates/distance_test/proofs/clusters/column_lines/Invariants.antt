-- `column_lines` is safe and ends.
use Rattle.std.proofs.Common.{◌-◌, ◌≤◌}
use Rattle.distance_test.proofs.clusters.column_lines.Given as goal

abbrev pub invariant-loop-word : goal.invariant-loop-word
invariant-loop-word l = l.word ≤ 304

abbrev pub decreases-loop-word : goal.decreases-loop-word
decreases-loop-word l = 304 - l.word
