-- `frame_counts` meets its contract: the frame is counted where it was written (FrameCounted). Assumes nothing.
use Rattle.frame_gaps.proofs.FrameCounted.{frame-counted}
use Rattle.frame_gaps.proofs.frame_counts.Goals as goal

pub returns : goal.returns
returns c = search (frame-counted)
