-- `unscramble_users` meets its contract: one data frame after the other (ldc_words, Eighth).
use mathlib.Core.Path.{refl}
use Prim.Native.Nat.{◌-◌, ◌+◌, ◌*◌}
use native.Mathlib.Omega.{arith}
use Rattle.laws.proofs.Fill.{upto-none, upto_all}
use Rattle.ldc_words.specs.steps.Eighth.{user_of}
use Rattle.ldc_words.proofs.Eighth.{user-turn}
use Rattle.user_reader.proofs.steps.unscramble_users.Goals as goal

pub loop-f-init : goal.loop-f-init
loop-f-init c = upto-none (omega arith)

pub loop-f-preserved : goal.loop-f-preserved
loop-f-preserved c = let args = c.args in
    let f = c.loop-f.f in
    user-turn args.stream.now args.frames.now c.scramble.new.to c.loop-f.user f (2052 * f + 2048 - 2052 * f) (2048 * f + 2048 - 2048 * f) (2048 * (f + 1)) (omega arith) (omega arith)
    (omega arith) (omega arith) refl c.scramble.ensures c.loop-f.invariant

pub returns : goal.returns
unfolding user_of
returns c = upto_all (omega arith) c.loop-f.invariant
