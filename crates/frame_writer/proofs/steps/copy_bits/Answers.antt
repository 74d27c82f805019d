-- `copy_bits` meets its contract (Copy). Assumes nothing.
use Rattle.frame_writer.proofs.Copy.{copied_none, copied_more, copied_all, copied-length}
use Rattle.frame_writer.proofs.steps.copy_bits.Goals as goal

pub loop-k-init : goal.loop-k-init
loop-k-init c = copied_none

pub loop-k-preserved : goal.loop-k-preserved
loop-k-preserved c = copied_more c.loop-k.invariant c.requires.0 c.loop-k-test.true c.read_bit.ensures c.write_bit.ensures

pub shape_of-image : goal.shape_of-image
shape_of-image c = copied-length c.loop-k.invariant

pub returns : goal.returns
returns c = copied_all c.loop-k.invariant c.requires.0 c.loop-k-test.false
