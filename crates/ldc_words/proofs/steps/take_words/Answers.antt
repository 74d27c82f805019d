-- `take_words` meets its contract: a byte more of each code word (Eighth).
use native.Mathlib.Omega.{arith}
use Rattle.ldc_words.proofs.Eighth.{words-taken-none, words-taken-end}
use Rattle.ldc_words.proofs.steps.take_words.Goals as goal

pub loop-n-init : goal.loop-n-init
loop-n-init c = words-taken-none _ _ _ (omega arith)

pub returns : goal.returns
returns c = search (words-taken-end)
