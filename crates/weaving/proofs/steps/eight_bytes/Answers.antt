-- `eight_bytes` meets its contract: four behind four (frame_bits, Weaving). Assumes nothing.
use Rattle.frame_bits.proofs.Weaving.{eight-bytes}
use Rattle.weaving.proofs.steps.eight_bytes.Goals as goal

pub returns : goal.returns
returns c = eight-bytes c.args.i c.four_bytes.ensures c.four_bytes-2.ensures
