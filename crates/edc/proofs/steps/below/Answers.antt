-- `below` meets its contract: the sum is the one that it says.
use mathlib.Core.Path.{refl}
use Rattle.edc.proofs.steps.below.Goals as goal

pub returns : goal.returns
returns c = refl
