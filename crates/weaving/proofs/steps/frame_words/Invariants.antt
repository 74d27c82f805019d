-- `frame_words` meets its contract: a group and its dc-control bit a turn (frame_bits, Weaving). Assumes nothing.
use Rattle.frame_bits.proofs.Weaving.{WordsTo}
use Rattle.weaving.proofs.steps.frame_words.Given as goal

abbrev pub invariant-loop-i : goal.invariant-loop-i
invariant-loop-i l = WordsTo l.row l.dc l.i l.words
