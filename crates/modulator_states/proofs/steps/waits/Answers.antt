-- `waits` meets its contract (modulator, Entries). Assumes nothing.
use Rattle.modulator.proofs.Entries.{count-is}
use Rattle.modulator_states.proofs.steps.waits.Goals as goal

pub returns : goal.returns
returns c = count-is c.args.s c.requires
