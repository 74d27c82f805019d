-- `zeros` meets its contract: 40 zeros. Assumes nothing.
use mathlib.Core.Path.{refl}
use Rattle.laws.specs.Tabulate.{tabulate}
use Rattle.register.proofs.steps.zeros.Goals as goal

pub returns : goal.returns
unfolding tabulate
returns c = refl
