-- `read_frame` meets its contract: the words that were read, if any, taken apart (frame, Reading). Assumes nothing.
use Rattle.frame.proofs.Reading.{reads}
use Rattle.frame_reader.proofs.steps.read_frame.Goals as goal

pub returns : goal.returns
returns c = search (reads)
