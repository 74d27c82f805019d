-- `value_at` meets its contract: the loop holds the value of the bytes passed. Assumes nothing.
use Rattle.column.proofs.Value.{Valued}
use Rattle.roots.proofs.value_at.Given as goal

abbrev pub invariant-loop-byte : goal.invariant-loop-byte
invariant-loop-byte l = Valued l.powers l.logs l.column l.x.0 l.byte-index l.v.0
