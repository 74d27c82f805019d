-- `answer_text` meets its contract: number, place and meaning (report, Words).
use Rattle.report.proofs.Words.{answer-is}
use Rattle.texts.specs.Pieces.{piece}
use Rattle.answer_report.proofs.answer_text.Goals as goal

pub returns : goal.returns
unfolding piece
returns c = search (answer-is)
