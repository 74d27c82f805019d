-- `most_needed` meets its contract: the parts of the answer below it (Exported).
use Rattle.export_ahead.proofs.Exported.{in-numbers}
use Rattle.export_ahead.proofs.most_needed.Goals as goal

pub returns : goal.returns
returns c = in-numbers _ c.most_needed-ahead.ensures c.number.ensures c.place.ensures
