-- `first_too_large` meets its contract: a search from the front (Judging).
use Prim.Native.Nat.{◌-◌, ◌≤◌}
use Rattle.laws.proofs.First.{Passed}
use Rattle.input_tests.specs.Parts.{too_large}
use Rattle.input_tests.proofs.steps.first_too_large.Given as goal

abbrev pub invariant-loop-n : goal.invariant-loop-n
invariant-loop-n l = (l.n ≤ 496) × Passed (too_large l.dc) l.n

abbrev pub decreases-loop-n : goal.decreases-loop-n
decreases-loop-n l = 496 - l.n
