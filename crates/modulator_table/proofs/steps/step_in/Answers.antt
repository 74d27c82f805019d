-- `step_in` meets its contract (modulator, Tables). Assumes nothing.
use Rattle.modulator.proofs.Tables.{step_in}
use Rattle.modulator_table.proofs.steps.step_in.Goals as goal

pub returns : goal.returns
returns c = step_in c.args.steps.now c.args.s c.args.d c.requires.0 c.requires.1.0 c.requires.1.1
