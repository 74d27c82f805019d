-- `address_fields` meets its contract: the loop has made the fields of the units passed.
use native.Mathlib.Omega.{arith}
use mathlib.Core.Path.{refl}
use Rattle.laws.proofs.Fill.{upto-none, upto-more, upto_all}
use Rattle.bis.specs.AccessBlock.{address_fields}
use Rattle.access_block.proofs.steps.address_fields.Goals as goal

pub loop-y-init : goal.loop-y-init
loop-y-init c = upto-none refl

pub loop-y-preserved : goal.loop-y-preserved
loop-y-preserved c = search (upto-more, arith)

pub returns : goal.returns
unfolding address_fields
returns c = search (upto_all, arith)
