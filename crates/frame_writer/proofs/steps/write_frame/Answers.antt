-- `write_frame` meets its contract (Copy). Assumes nothing.
use Rattle.frame_writer.proofs.Copy.{frame-copied}
use Rattle.frame_writer.proofs.steps.write_frame.Goals as goal

pub returns : goal.returns
returns c = frame-copied c.blank-frame.ensures c.write_whole-next-2.ensures c.copy_bits.ensures
