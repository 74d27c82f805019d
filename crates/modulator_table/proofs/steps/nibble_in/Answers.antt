-- `nibble_in` meets its contract (modulator, Tables). Assumes nothing.
use Rattle.modulator.proofs.Tables.{nibble-in}
use Rattle.modulator_table.proofs.steps.nibble_in.Goals as goal

pub returns : goal.returns
returns c = nibble-in c.args.nibbles.now c.args.s c.args.x c.requires.0 c.requires.1.0 c.requires.1.1
