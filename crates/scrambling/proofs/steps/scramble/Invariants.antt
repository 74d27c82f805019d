-- `scramble` meets its contract, byte by byte.
use lib.Bits.{bit_xor}
use lib.ListN.{length, get_or}
use Rattle.laws.proofs.Fill.{Upto}
use Rattle.scrambling.proofs.steps.scramble.Given as goal

abbrev pub invariant-loop-k : goal.invariant-loop-k
invariant-loop-k l = Upto 0 (λ k. bit_xor (get_or l.from k 0) (get_or l.stream k 0)) (length l.from) l.k l.to
