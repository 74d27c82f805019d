-- `start` meets its contract: nothing is read (Reading).
use Rattle.queue_lines.proofs.Reading.{nothing_read}
use Rattle.queue_lines.proofs.steps.start.Goals as goal

pub returns : goal.returns
returns c = nothing_read c.no_line.ensures c.empty.ensures
