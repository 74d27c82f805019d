-- `value_at` meets its contract: the loop holds the value of the bytes passed. Assumes nothing.
use Rattle.column.proofs.Value.{valued-none, valued-next, valued-all}
use borrow.Author.Rules.{rules}
use Rattle.roots.proofs.value_at.Goals as goal

pub loop-byte-init : goal.loop-byte-init
loop-byte-init c = valued-none _ c.requires (search rules)

pub loop-byte-preserved : goal.loop-byte-preserved
loop-byte-preserved c = valued-next (search rules) c.product_by.ensures (search rules) c.sum-v.ensures c.loop-byte.invariant

pub returns : goal.returns
returns c = valued-all (search rules) c.loop-byte.invariant
