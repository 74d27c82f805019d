-- `generator_4` meets its contract: the code's table is the generator without its first coefficient. Assumes nothing.
use mathlib.Core.Path.{refl}
use Rattle.column.proofs.Generator.{coefficients4, coefficients-4}
use Rattle.parity.proofs.generator_4.Goals as goal

pub returns : goal.returns
unfolding coefficients4
returns c = (refl, coefficients-4)
