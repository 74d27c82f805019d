-- `first_too_large` meets its contract: a search from the front (Judging).
use native.Mathlib.Omega.{arith}
use mathlib.Core.Path.{◌≡◌, ◌∙◌}
use Prim.Native.Nat.{◌-◌}
use Rattle.laws.proofs.First.{passed_none, passed-more, first-here, first_past}
use Rattle.input_tests.specs.Parts.{first_too_large}
use Rattle.input_tests.proofs.Judging.{dc-large, dc-small}
use Rattle.input_tests.proofs.steps.first_too_large.Goals as goal

pub loop-n-init : goal.loop-n-init
loop-n-init c = (omega arith, passed_none)

pub returns-then-dc-n-gt268435455 : goal.returns-then-dc-n-gt268435455
unfolding first_too_large
returns-then-dc-n-gt268435455 c = search (first-here, dc-large)

pub loop-n-preserved : goal.loop-n-preserved
loop-n-preserved c = (omega arith, search (passed-more, dc-small))

pub returns : goal.returns
unfolding first_too_large
returns c = let all : c.loop-n.n ≡ 496 = omega arith in all ∙ first_past (omega arith) c.loop-n.invariant.1
