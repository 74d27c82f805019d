-- `nibble_entry` meets its contract (modulator, Tables). Assumes nothing.
use Rattle.modulator.proofs.Tables.{nibble-made}
use Rattle.modulator_table.proofs.steps.nibble_entry.Goals as goal

pub returns : goal.returns
returns c = nibble-made c.args.s c.args.x c.step_in-a.ensures.0 c.state.ensures c.step_in-b.ensures.0 c.joined.ensures
