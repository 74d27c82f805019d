-- `frames` meets its contract: the frame that was found, or none, and what was read (Judging).
use Rattle.judging.proofs.Judging.{frame-refused, frames-passed}
use Rattle.judging.proofs.steps.frames.Goals as goal

pub returns-in-Some : goal.returns-in-Some
returns-in-Some c = frame-refused c.in-Some.ensures

pub returns-in-None : goal.returns-in-None
returns-in-None c = frames-passed c.in-None.ensures
