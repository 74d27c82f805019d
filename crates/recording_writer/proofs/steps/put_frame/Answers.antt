-- `put_frame` meets its contract: the row that is shown is the row, and the sync is the frame's (Writing).
use native.Mathlib.Omega.{arith}
use Rattle.recording_writer.proofs.Writing.{row-size, frame-put}
use borrow.Author.Rules.{rules}
use Rattle.recording_writer.proofs.steps.put_frame.Goals as goal

pub write_frame-requires : goal.write_frame-requires
write_frame-requires c = ((search rules, search (row-size)), (search rules, omega arith))

pub returns : goal.returns
returns c = search (frame-put)
