-- `queue_seen` meets its contract, order by order (Exported).
use Rattle.export_queue.proofs.Exported.{four-seen}
use Rattle.export_queue.proofs.queue_seen.Goals as goal

pub returns : goal.returns
returns c = four-seen _ c.order_seen.ensures c.order_seen-2.ensures c.order_seen-3.ensures c.order_seen-4.ensures
