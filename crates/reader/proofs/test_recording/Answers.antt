-- `test_recording` meets its contract, test by test (Reading).
use Rattle.reader.proofs.Reading.{start-wrong, frames-tested}
use Rattle.reader.proofs.test_recording.Goals as goal

pub returns-then-is_done : goal.returns-then-is_done
returns-then-is_done c = search (frames-tested)

pub returns : goal.returns
returns c = search (start-wrong)
