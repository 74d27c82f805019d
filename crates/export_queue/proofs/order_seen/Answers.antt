-- `order_seen` meets its contract: 1 for a waiting order (Exported).
use Rattle.export_queue.proofs.Exported.{order-seen}
use Rattle.export_queue.proofs.order_seen.Goals as goal

pub returns : goal.returns
returns c = order-seen c.args.order c.flag.ensures
