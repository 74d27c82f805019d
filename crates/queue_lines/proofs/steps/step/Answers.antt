-- `step` meets its contract: the line feed, and any other byte (Reading).
use Rattle.queue_lines.proofs.Reading.{feed-taken, byte-taken}
use Rattle.queue_lines.proofs.steps.step.Goals as goal

pub returns-then-byte-eq10 : goal.returns-then-byte-eq10
returns-then-byte-eq10 c = feed-taken _ _ c.if-byte-eq10.true c.no_line.ensures c.handle_line-done.ensures c.handled_text.ensures

pub returns-else-byte-eq10 : goal.returns-else-byte-eq10
returns-else-byte-eq10 c = byte-taken _ _ c.if-byte-eq10.false c.add_byte.ensures c.blank.ensures
