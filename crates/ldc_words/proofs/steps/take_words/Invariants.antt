-- `take_words` meets its contract: a byte more of each code word (Eighth).
use Rattle.ldc_words.specs.steps.Eighth.{WordsTaken}
use Rattle.ldc_words.proofs.steps.take_words.Given as goal

abbrev pub invariant-loop-n : goal.invariant-loop-n
invariant-loop-n l = WordsTaken l.work l.e l.n l.words
