-- `read_text` meets its contract: the PSN's line, then that of the first # (report, Words).
use Rattle.report.proofs.Words.{read-text-is}
use Rattle.psn_report.proofs.read_text.Goals as goal

pub returns-then-first : goal.returns-then-first
returns-then-first c = search (read-text-is)

pub returns-else-first : goal.returns-else-first
returns-else-first c = search (read-text-is)
