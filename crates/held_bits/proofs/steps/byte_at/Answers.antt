-- `byte_at` meets its contract (modulator, Tables). Assumes nothing.
use Rattle.modulator.proofs.Tables.{byte-read}
use Rattle.held_bits.proofs.steps.byte_at.Goals as goal

pub returns : goal.returns
returns c = byte-read c.args.table.now c.args.s c.args.byte c.requires.0 c.requires.1.0 c.requires.1.1
