-- `found` is safe.
use Rattle.std.proofs.Common.{◌≡◌, length}
use Rattle.figures_test.proofs.clusters.found.Given as goal

abbrev pub invariant-loop : goal.invariant-loop
invariant-loop l = length l.marks ≡ 66256
