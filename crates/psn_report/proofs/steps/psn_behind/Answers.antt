-- `psn_behind` meets its contract: three pieces (report, Words).
use Rattle.report.proofs.Words.{psn-behind-is}
use Rattle.psn_report.proofs.steps.psn_behind.Goals as goal

pub returns : goal.returns
returns c = search (psn-behind-is)
