-- `step` meets its contract: the line feed, and any other byte (Files).
use native.Mathlib.Omega.{arith}
use Rattle.sheet_file.proofs.Files.{steps-end, steps_on}
use Rattle.sheet_file.proofs.steps.step.Goals as goal

pub returns-then-byte-eq10 : goal.returns-then-byte-eq10
returns-then-byte-eq10 c = steps-end _ _ c.if-byte-eq10.true c.no_line.ensures (λ h. omega (arith, c.saturating_add.ensures)) c.end_line.ensures

pub returns-else-byte-eq10 : goal.returns-else-byte-eq10
returns-else-byte-eq10 c = steps_on _ _ c.if-byte-eq10.false c.add_byte.ensures
