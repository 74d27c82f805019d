-- `write` meets its contract, from what `encode` and `put_image` ensure (Frames).
use Rattle.image_writer.proofs.Frames.{filled}
use Rattle.image_writer.proofs.steps.write.Goals as goal

pub returns : goal.returns
returns c = filled _ _ _ (λ k. (c.slice_known-4-1.given k).fits) c.encode.ensures c.put_image.ensures
