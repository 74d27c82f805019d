-- `sync_end` meets its contract: the last bit of the table's ID (SyncTables). Assumes nothing.
use Rattle.frame_sync.proofs.SyncTables.{end-at}
use Rattle.frame_sync.proofs.steps.sync_end.Goals as goal

pub returns : goal.returns
returns c = end-at c.args.number c.requires
