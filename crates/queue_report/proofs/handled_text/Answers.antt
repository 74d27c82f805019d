-- `handled_text` meets its contract: number, place, bench, PSN and words (Words).
use Rattle.texts.specs.Pieces.{piece}
use Rattle.queue_report.proofs.Words.{handled-is}
use Rattle.queue_report.proofs.handled_text.Goals as goal

pub returns : goal.returns
unfolding piece
returns c = handled-is c.args.handled c.blank.ensures c.number.ensures c.put_decimal-numbered.ensures c.place.ensures c.put_piece-placed.ensures c.put_piece-benched.ensures c.put_hexadecimal-named.ensures c.put_words.ensures
