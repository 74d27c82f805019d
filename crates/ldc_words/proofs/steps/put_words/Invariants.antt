-- `put_words` meets its contract: a byte more of each code word (Eighth).
use Rattle.ldc_words.specs.steps.Eighth.{WordsPut}
use Rattle.ldc_words.proofs.steps.put_words.Given as goal

abbrev pub invariant-loop-n : goal.invariant-loop-n
invariant-loop-n l = WordsPut l.words l.e l.n l.initial.work l.work
