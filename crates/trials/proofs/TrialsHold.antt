-- The starred trials hold of the definitions, computed. Assumes nothing.
use Rattle.galois.specs.Field.{sum, timesα, times, product}
use Rattle.modulation.specs.Modulation.{modulate_from}
use Rattle.trials.specs.Trials.{AllHold, trials}

pub trials-hold : AllHold trials
unfolding modulate_from sum timesα times product
trials-hold = search (tt) depth 15
