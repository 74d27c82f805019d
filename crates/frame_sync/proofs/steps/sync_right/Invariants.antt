-- `sync_right` meets its contract: group by group, up to one that differs (SyncRight). Assumes nothing.
use Rattle.frame_sync.specs.Sync.{fs}
use Rattle.frame_sync.proofs.SyncRight.{Agrees}
use Rattle.frame_sync.proofs.steps.sync_right.Given as goal

abbrev pub invariant-loop-j : goal.invariant-loop-j
invariant-loop-j l = Agrees (fs l.number) l.hash l.image l.at l.wanted l.j
