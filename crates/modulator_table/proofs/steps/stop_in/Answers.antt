-- `stop_in` meets its contract (modulator, Tables). Assumes nothing.
use Rattle.modulator.proofs.Tables.{stop-read, stop-small}
use Rattle.modulator_table.proofs.steps.stop_in.Goals as goal

pub returns : goal.returns
returns c = let is = stop-read c.args.stops.now c.args.s c.requires.0 c.requires.1 in
    (is, rw is (stop-small c.args.s c.requires.1))
