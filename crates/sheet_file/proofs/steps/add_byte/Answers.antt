-- `add_byte` meets its contract: beyond the eight bytes that are held, and among them (Lines).
use Rattle.sheet_file.proofs.Lines.{line-full, line-more}
use Rattle.sheet_file.proofs.steps.add_byte.Goals as goal

pub returns-then-held-ge8 : goal.returns-then-held-ge8
returns-then-held-ge8 c = λ begun holds. line-full _ _ _ begun holds c.if-held-ge8.true c.size_after.ensures

pub returns : goal.returns
returns c = λ begun holds. line-more _ _ _ begun holds c.if-held-ge8.false c.size_after-2.ensures
