-- `take_information` meets its contract: one code word after the other (Eighth).
use native.Mathlib.Omega.{arith}
use Rattle.laws.proofs.Fill.{upto-none, upto_all}
use Rattle.ldc_words.specs.steps.Eighth.{information_of}
use Rattle.ldc_words.proofs.steps.take_information.Goals as goal

pub loop-j-init : goal.loop-j-init
loop-j-init c = upto-none (omega arith)

pub returns : goal.returns
unfolding information_of
returns c = upto_all (omega arith) c.loop-j.invariant
