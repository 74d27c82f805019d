-- `said` meets its contract: a line that is no PSN, and an answer (Words).
use Rattle.sheet_report.proofs.Words.{wrong-said, right-said}
use Rattle.sheet_report.proofs.steps.said.Goals as goal

pub returns-in-Some : goal.returns-in-Some
returns-in-Some c = λ bytes short read. wrong-said bytes (c.finish-count.ensures bytes short read) c.in-Some.is

pub returns : goal.returns
returns c = λ bytes short read.
    right-said bytes (c.finish-count.ensures bytes short read) c.in_default.is c.judge-answer.ensures.value c.place.ensures c.line_at-line.ensures c.sheet_text.ensures
