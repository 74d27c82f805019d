-- `judge_sheet` meets its contract: the answer below it, as numbers (Exported).
use Rattle.export_sheet.proofs.Exported.{judges-numbers}
use Rattle.export_sheet.proofs.judge_sheet.Goals as goal

pub returns-clause-value : goal.returns-clause-value
returns-clause-value c = (judges-numbers _ c.psns_of.ensures c.judge-answer.ensures.value c.of.ensures).0

pub returns-clause-variant : goal.returns-clause-variant
returns-clause-variant c = (judges-numbers _ c.psns_of.ensures c.judge-answer.ensures.value c.of.ensures).1
