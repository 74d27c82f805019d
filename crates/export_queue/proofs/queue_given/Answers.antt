-- `queue_given` meets its contract, order by order (Exported).
use Rattle.export_queue.proofs.Exported.{four-given}
use Rattle.export_queue.proofs.queue_given.Goals as goal

pub returns : goal.returns
returns c = four-given _ c.order_given.ensures c.order_given-2.ensures c.order_given-3.ensures c.order_given-4.ensures
