-- `sheet_text` meets its contract: number, place, line and meaning (Words).
use Rattle.texts.specs.Pieces.{piece}
use Rattle.sheet_report.proofs.Words.{sheet-is}
use Rattle.sheet_report.proofs.steps.sheet_text.Goals as goal

pub returns : goal.returns
unfolding piece
returns c = search (sheet-is)
