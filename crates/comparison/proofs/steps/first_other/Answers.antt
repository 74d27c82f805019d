-- `first_other` meets its contract: a search from the front.
use native.Mathlib.Omega.{arith}
use Rattle.laws.proofs.Differing.{differs, agrees}
use Rattle.laws.proofs.First.{passed_none, passed-more, first-here, first_past}
use Rattle.comparison.specs.Compared.{first_other}
use Rattle.comparison.proofs.steps.first_other.Goals as goal

pub loop-k-init : goal.loop-k-init
loop-k-init c = passed_none

pub returns-then-a-k : goal.returns-then-a-k
unfolding first_other
returns-then-a-k c = let found = first-here {n = c.args.n} (omega arith) c.loop-k.invariant (differs _ _ _ c.if-a-k.true) in (omega (arith, found), found)

pub loop-k-preserved : goal.loop-k-preserved
loop-k-preserved c = search (passed-more, agrees)

pub returns : goal.returns
unfolding first_other
returns c = let none = first_past {n = c.args.n} (omega arith) c.loop-k.invariant in λ h. omega (arith, none, h)
