-- `first_other` meets its contract: a search from the front.
use Rattle.laws.specs.Differing.{differs_at}
use Rattle.laws.proofs.First.{Passed}
use Rattle.comparison.proofs.steps.first_other.Given as goal

abbrev pub invariant-loop-k : goal.invariant-loop-k
invariant-loop-k l = Passed (differs_at l.a l.b) l.k
