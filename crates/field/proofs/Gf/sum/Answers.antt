-- `Gf::sum` meets its contract: exclusive or is the sum by definition. Assumes nothing.
use mathlib.Core.Path.{refl}
use Rattle.galois.specs.Field.{sum}
use Rattle.field.proofs.Gf.sum.Goals as goal

pub returns : goal.returns
unfolding sum
returns c = refl
