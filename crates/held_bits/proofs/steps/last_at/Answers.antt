-- `last_at` meets its contract (modulator, Tables). Assumes nothing.
use Rattle.modulator.proofs.Tables.{last-read}
use Rattle.held_bits.proofs.steps.last_at.Goals as goal

pub returns : goal.returns
returns c = last-read c.args.table.now c.args.s c.args.nibble c.requires.0 c.requires.1.0 c.requires.1.1
