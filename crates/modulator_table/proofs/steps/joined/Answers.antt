-- `joined` meets its contract. Assumes nothing.
use mathlib.Core.Path.{refl}
use Rattle.modulator.specs.steps.Table.{joined}
use Rattle.modulator_table.proofs.steps.joined.Goals as goal

pub returns : goal.returns
unfolding joined
returns c = refl
