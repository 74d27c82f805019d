-- `cleared` meets its contract (modulator, Entries). Assumes nothing.
use Rattle.modulator.proofs.Entries.{cleared-is}
use Rattle.modulator_states.proofs.steps.cleared.Goals as goal

pub returns : goal.returns
returns c = cleared-is c.args.v c.args.k c.ranges.v.fits
