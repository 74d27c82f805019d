-- `verdict_text` meets its contract: the words of each verdict (report, Words).
use Rattle.report.proofs.Words.{verdict-is, refused-is}
use Rattle.report.specs.Words.{verdict_text}
use Rattle.texts.specs.Pieces.{piece}
use Rattle.verdict_report.proofs.verdict_text.Goals as goal

pub returns-in-Pass : goal.returns-in-Pass
unfolding verdict_text piece
returns-in-Pass c = search (verdict-is)

pub returns-in-Refused : goal.returns-in-Refused
unfolding verdict_text piece
returns-in-Refused c = search (refused-is)

pub returns-in-OtherPsn : goal.returns-in-OtherPsn
unfolding verdict_text piece
returns-in-OtherPsn c = search (verdict-is)

pub returns-in-OtherUser : goal.returns-in-OtherUser
unfolding verdict_text piece
returns-in-OtherUser c = search (verdict-is)

pub returns-in-OtherSide : goal.returns-in-OtherSide
unfolding verdict_text piece
returns-in-OtherSide c = search (verdict-is)
