-- `clear` meets its contract: a fill with zeros. Assumes nothing.
use lib.ListN.{length}
use Rattle.laws.proofs.Fill.{Upto}
use Rattle.slices.proofs.clear.Given as goal

abbrev pub invariant-loop-i : goal.invariant-loop-i
invariant-loop-i l = Upto 0 (λ _. 0) (length l.initial.bytes) l.i l.bytes
