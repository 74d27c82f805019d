-- `complete_words` meets its contract: one code word after the other (ldc_words, Eighth).
use mathlib.Core.Path.{refl}
use Prim.Native.Nat.{◌-◌, ◌+◌, ◌*◌}
use native.Mathlib.Omega.{arith}
use Rattle.laws.proofs.Fill.{upto-none, upto_all}
use Rattle.ldc_words.specs.steps.Eighth.{completed_words}
use Rattle.ldc_words.proofs.Eighth.{completed-turn}
use Rattle.ldc_parity.proofs.steps.complete_words.Goals as goal

pub loop-j-init : goal.loop-j-init
loop-j-init c = upto-none (omega arith)

pub loop-j-preserved : goal.loop-j-preserved
loop-j-preserved c = let args = c.args in
    let j = c.loop-j.j in
    completed-turn args.frames.now c.loop-j.words c.complete.new.word j (216 * j + 216 - 216 * j) (248 * j + 248 - 248 * j) (248 * (j + 1)) (omega arith) (omega arith) (omega arith) (omega arith) refl c.complete.ensures c.loop-j.invariant

pub returns : goal.returns
unfolding completed_words
returns c = upto_all (omega arith) c.loop-j.invariant
