-- `finish` meets its contract: no line is begun, or one is (Reading).
use native.Mathlib.Omega.{arith}
use Rattle.queue_lines.proofs.Reading.{no-last-line, last_line}
use Rattle.queue_lines.proofs.steps.finish.Goals as goal

pub returns-then-line-eq0 : goal.returns-then-line-eq0
returns-then-line-eq0 c = λ bytes printed has. no-last-line _ bytes printed has (omega (arith, c.if-line-eq0.true)) c.blank.ensures

pub returns-else-line-eq0 : goal.returns-else-line-eq0
returns-else-line-eq0 c = λ bytes printed has.
    last_line _ bytes printed has (λ e. omega (arith, c.if-line-eq0.false, e)) c.handle_line.ensures c.handled_text.ensures
