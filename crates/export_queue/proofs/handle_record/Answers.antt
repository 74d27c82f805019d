-- `handle_record` meets its contract: what is handled below it, in numbers (Exported).
use mathlib.Core.Path.{ap, ◌∙◌}
use Rattle.order_queue.specs.declared.Queue.{Queue}
use Rattle.order_queue.specs.Queue.{handled}
use Rattle.export_queue.proofs.Exported.{in-numbers}
use Rattle.export_queue.proofs.handle_record.Goals as goal

pub returns : goal.returns
returns c = in-numbers (c.handle-handled.ensures ∙ ap (λ (q : Queue). handled q c.args.bytes.now) c.queue_given.ensures) c.queue_seen.ensures c.number.ensures c.place.ensures
