-- `fronts` meets its contract: a byte a turn. Assumes nothing.
use Rattle.register.proofs.Eight.{Fronts}
use Rattle.code_word.proofs.steps.fronts.Given as goal

abbrev pub invariant-loop-k : goal.invariant-loop-k
invariant-loop-k l = Fronts l.was l.message l.at l.k l.eight
