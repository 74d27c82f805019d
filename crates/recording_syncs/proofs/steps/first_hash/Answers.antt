-- `first_hash` meets its contract: the answer decides (Judging).
use Rattle.recording_syncs.proofs.Judging.{hash-read, hash-refused}
use Rattle.recording_syncs.proofs.steps.first_hash.Goals as goal

pub returns-then-is_done : goal.returns-then-is_done
returns-then-is_done c = search (hash-read)

pub returns : goal.returns
returns c = search (hash-refused)
