-- `handle_line` meets its contract: what is held of a line is handled as the line is (Records).
use mathlib.Core.Path.{sym}
use Rattle.queue_lines.proofs.Records.{line-handled}
use Rattle.queue_lines.proofs.steps.handle_line.Goals as goal

pub returns-in-Some : goal.returns-in-Some
returns-in-Some c = λ begun holds. line-handled _ c.handle.ensures c.in-Some.ensures.first-ones holds

pub returns-in-None : goal.returns-in-None
returns-in-None c = λ begun holds. line-handled _ c.handle-in-None.ensures (sym c.in-None.ensures) holds
