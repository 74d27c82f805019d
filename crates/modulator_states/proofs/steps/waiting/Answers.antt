-- `waiting` meets its contract (modulator, Entries). Assumes nothing.
use Rattle.modulator.proofs.Entries.{waiting-is}
use Rattle.modulator_states.proofs.steps.waiting.Goals as goal

pub returns : goal.returns
returns c = waiting-is c.args.s c.requires
