-- `add_byte` meets its contract: beyond the twelve bytes that are held, and among them (Lines).
use Rattle.queue_lines.proofs.Lines.{record-line-full, record-line-more}
use Rattle.queue_lines.proofs.steps.add_byte.Goals as goal

pub returns-then-size-ge12 : goal.returns-then-size-ge12
returns-then-size-ge12 c = λ begun holds. record-line-full holds _ c.if-size-ge12.true

pub returns : goal.returns
returns c = λ begun holds. record-line-more holds _ c.if-size-ge12.false
