-- `next_state` meets its contract (modulator, Entries). Assumes nothing.
use Rattle.modulator.proofs.Entries.{next-is}
use Rattle.modulator_states.proofs.steps.next_state.Goals as goal

pub returns : goal.returns
returns c = next-is c.args.s c.args.d c.requires.0 c.requires.1
