-- `last_two` meets its contract: the last bits of the last word (frame_bits, Weaving). Assumes nothing.
use Rattle.frame_bits.proofs.Weaving.{last-four}
use Rattle.weaving.proofs.steps.last_two.Goals as goal

pub returns : goal.returns
returns c = last-four c.args.words.now
