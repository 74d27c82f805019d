-- `outcome_text` meets its contract: a number of bits, and a refusal (Words).
use Rattle.texts.specs.Pieces.{piece}
use Rattle.ahead_report.proofs.Words.{bits-said, refusal-said}
use Rattle.ahead_report.proofs.outcome_text.Goals as goal

pub returns-then-is_done : goal.returns-then-is_done
unfolding piece
returns-then-is_done c = let own = c.args.ahead in
    bits-said own.answer own.bits c.is_done.ensures c.if-is_done.true c.blank.ensures c.put_piece.ensures

pub returns : goal.returns
returns c = let own = c.args.ahead in
    refusal-said own.answer own.bits c.is_done.ensures c.if-is_done.false c.answer_text.ensures
