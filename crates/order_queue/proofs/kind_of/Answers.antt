-- `kind_of` meets its contract: a first byte, and none.
use mathlib.Core.Path.{sym}
use lib.ListN.{get_or-eq_default}
use Rattle.order_queue.proofs.kind_of.Goals as goal

pub returns : goal.returns
returns c = sym (get_or-eq_default c.args.bytes.now 0 c.if-bytes-gt0.false)
