-- `sync_number` meets its contract: the table is that of Figure 41 (SyncTables). Assumes nothing.
use Rattle.frame_sync.proofs.SyncTables.{number_at}
use Rattle.frame_sync.proofs.sync_number.Goals as goal

pub returns : goal.returns
returns c = number_at c.args.n
