-- `last_entry` meets its contract (modulator, Tables). Assumes nothing.
use Rattle.modulator.proofs.Tables.{last_made}
use Rattle.modulator_table.proofs.steps.last_entry.Goals as goal

pub returns : goal.returns
returns c = last_made c.args.s c.args.x c.nibble_in-a.ensures.0 c.state.ensures c.stop_in.ensures.0
