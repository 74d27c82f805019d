-- `first_wrong_of` meets its contract: a search from the front.
use Rattle.laws.proofs.First.{Passed}
use Rattle.ldc_words.specs.steps.Eighth.{wrong_of}
use Rattle.ldc_reader.proofs.steps.first_wrong_of.Given as goal

abbrev pub invariant-loop-j : goal.invariant-loop-j
invariant-loop-j l = Passed (wrong_of l.words) l.j
