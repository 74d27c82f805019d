-- `take_information` meets its contract: one code word after the other (Eighth).
use Prim.Native.Nat.{◌+◌, ◌*◌, ◌/◌, ◌%◌}
use lib.ListN.{get_or}
use Rattle.laws.proofs.Fill.{Upto}
use Rattle.ldc_words.proofs.steps.take_information.Given as goal

abbrev pub invariant-loop-j : goal.invariant-loop-j
invariant-loop-j l = Upto 0 (λ p. get_or l.words (248 * (p / 216) + p % 216) 0) 8208 (216 * l.j) l.frames
