-- `put_image` meets its contract: frames, the sync that follows and two zero bits are all bits of the image (Frames).
use Rattle.image_writer.proofs.Frames.{image-done}
use borrow.Author.Rules.{rules}
use Rattle.image_writer.proofs.steps.put_image.Goals as goal

pub returns : goal.returns
returns c = image-done _ _ _ _ _ _ _ _ _ (search rules) c.put_frames-state.ensures c.write_sync.ensures c.write_bit.ensures c.write_bit-2.ensures
