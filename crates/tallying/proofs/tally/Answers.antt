-- `tally` meets its contract: the text of its tally (Table).
use Rattle.tallying.proofs.Table.{tally-from-is}
use Rattle.tallying.proofs.tally.Goals as goal

pub returns : goal.returns
returns c = search (tally-from-is)
