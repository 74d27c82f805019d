-- `user_bytes` meets its contract: one eighth after the other (ldc_words, Eighth).
use native.Mathlib.Omega.{arith}
use borrow.Author.Rules.{rules}
use Rattle.laws.proofs.Fill.{upto-none, upto_all}
use Rattle.cluster.specs.Reading.{user_in}
use Rattle.ldc_words.proofs.Eighth.{users-turn}
use Rattle.user_reader.proofs.steps.user_bytes.Goals as goal

pub loop-e-init : goal.loop-e-init
loop-e-init c = (search rules, upto-none (omega arith))

pub returns : goal.returns
unfolding user_in
returns c = upto_all (omega arith) c.loop-e.invariant.1

pub loop-e-preserved : goal.loop-e-preserved
loop-e-preserved c = search (rules, users-turn)
