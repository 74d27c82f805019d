-- `take_two` meets its contract: a row in each half of the slice (frame, Reading). Assumes nothing.
use Rattle.frame.proofs.Reading.{two-taken}
use Rattle.frame_reader.proofs.steps.take_two.Goals as goal

pub returns : goal.returns
returns c = two-taken c.args.rows.now _ _ c.requires.1 c.take_frame-first.ensures c.take_frame-second.ensures
