-- `divide` meets its contract: the loop holds the remainder of the bytes passed. Assumes nothing.
use Rattle.column.proofs.Register.{Divided}
use Rattle.parity.proofs.divide.Given as goal

abbrev pub invariant-loop-byte : goal.invariant-loop-byte
invariant-loop-byte l = Divided l.generator l.message l.byte-index l.register
