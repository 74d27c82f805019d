-- `bis_block` meets its contract, column by column.
use native.Mathlib.Omega.{arith}
use mathlib.Core.Path.{refl}
use Rattle.laws.proofs.Fill.{upto-none, upto-more, upto_all}
use Rattle.cluster.specs.Multiplex.{bis_in}
use Rattle.bis_cluster.proofs.steps.bis_block.Goals as goal

pub loop-c-init : goal.loop-c-init
loop-c-init c = upto-none refl

pub loop-c-preserved : goal.loop-c-preserved
loop-c-preserved c = upto-more (omega arith) c.bis_column.ensures c.loop-c.invariant

pub returns : goal.returns
unfolding bis_in
returns c = upto_all (omega arith) c.loop-c.invariant
