-- `modulate` meets its contract: a word a turn (conversion, Modulating). Assumes nothing.
use Rattle.conversion.proofs.Modulating.{Modulating}
use Rattle.few_pairs.proofs.steps.modulate.Given as goal

abbrev pub invariant-loop-left : goal.invariant-loop-left
invariant-loop-left l = Modulating l.before l.count l.pairs l.value l.terminated l.bit l.left l.rest

abbrev pub decreases-loop-left : goal.decreases-loop-left
decreases-loop-left l = l.left
