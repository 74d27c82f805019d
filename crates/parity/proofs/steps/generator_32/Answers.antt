-- `generator_32` meets its contract: the code's table is the generator without its first coefficient. Assumes nothing.
use mathlib.Core.Path.{refl}
use Rattle.column.proofs.Generator.{coefficients32, coefficients-32}
use Rattle.parity.proofs.steps.generator_32.Goals as goal

pub returns : goal.returns
unfolding coefficients32
returns c = (refl, coefficients-32)
