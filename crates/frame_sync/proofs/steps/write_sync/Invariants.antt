-- `write_sync` meets its contract: group by group (Writing). Assumes nothing.
use Rattle.frame_sync.specs.Sync.{fs}
use Rattle.frame_sync.proofs.Writing.{SyncUpto}
use Rattle.frame_sync.proofs.steps.write_sync.Given as goal

abbrev pub invariant-loop-j : goal.invariant-loop-j
invariant-loop-j l = SyncUpto (fs l.number) l.hash l.initial.image l.at l.word l.image l.j
