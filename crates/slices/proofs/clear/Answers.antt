-- `clear` meets its contract: a fill with zeros. Assumes nothing.
use mathlib.Core.Path.{refl}
use borrow.Author.Rules.{rules}
use Rattle.laws.proofs.Fill.{upto-none, upto-more, upto_all}
use Rattle.slices.proofs.clear.Goals as goal

pub loop-i-init : goal.loop-i-init
loop-i-init c = upto-none refl

pub loop-i-preserved : goal.loop-i-preserved
loop-i-preserved c = upto-more (search rules) refl c.loop-i.invariant

pub returns : goal.returns
returns c = upto_all (search rules) c.loop-i.invariant
