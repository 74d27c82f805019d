-- `scramble` meets its contract, byte by byte.
use mathlib.Core.Path.{refl}
use native.Mathlib.Omega.{arith}
use Rattle.laws.proofs.Fill.{upto-none, upto-more, upto_all}
use Rattle.scrambling.specs.Scrambling.{scrambled}
use Rattle.scrambling.proofs.steps.scramble.Goals as goal

pub loop-k-init : goal.loop-k-init
loop-k-init c = upto-none (omega arith)

pub loop-k-preserved : goal.loop-k-preserved
loop-k-preserved c = upto-more (omega arith) refl c.loop-k.invariant

pub returns : goal.returns
unfolding scrambled
returns c = upto_all (omega arith) c.loop-k.invariant
