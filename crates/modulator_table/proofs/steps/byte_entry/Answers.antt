-- `byte_entry` meets its contract (modulator, Tables). Assumes nothing.
use Rattle.modulator.proofs.Tables.{byte-within, byte-made}
use Rattle.modulator_table.proofs.steps.byte_entry.Goals as goal

pub joined-requires : goal.joined-requires
joined-requires c = byte-within c.args.s c.args.x c.requires.1.0 c.requires.1.1 c.nibble_in-a.ensures.0 c.state.ensures c.nibble_in-b.ensures.0

pub returns : goal.returns
returns c = byte-made c.args.s c.args.x c.nibble_in-a.ensures.0 c.state.ensures c.nibble_in-b.ensures.0 c.joined.ensures
