-- `read_two` meets its contract: the words of two frames, taken apart (frame, Reading). Assumes nothing.
use Rattle.frame.proofs.Reading.{reads}
use Rattle.frame_reader.proofs.steps.read_two.Goals as goal

pub returns : goal.returns
returns c = search (reads)
