-- `end_line` meets its contract: a blank line, and another (Files).
use native.Mathlib.Omega.{arith}
use Rattle.sheet_file.proofs.Files.{ends-blank, ends-entry}
use Rattle.sheet_file.proofs.steps.end_line.Goals as goal

pub returns-then-size-eq0 : goal.returns-then-size-eq0
returns-then-size-eq0 c = ends-blank (omega (arith, c.if-size-eq0.true))

pub returns : goal.returns
returns c = ends-entry (λ e. omega (arith, c.if-size-eq0.false, e)) c.psn_on.ensures (λ h. omega (arith, c.saturating_add-number.ensures)) c.add_entry.ensures
