-- `divide` meets its contract: the loop holds the remainder of the bytes passed. Assumes nothing.
use Rattle.column.proofs.Register.{divided-none, divided-next, divided-all}
use borrow.Author.Rules.{rules}
use native.Mathlib.Omega.{arith}
use Rattle.parity.proofs.divide.Goals as goal

pub loop-byte-init : goal.loop-byte-init
loop-byte-init c = search (divided-none, arith)

pub loop-byte-preserved : goal.loop-byte-preserved
loop-byte-preserved c = divided-next (search rules) c.push.ensures c.loop-byte.invariant

pub returns : goal.returns
returns c = search (divided-all, arith)
