-- `bytes_of` meets its contract: filled from the front (Words).
use mathlib.Core.Path.{◌≡◌}
use lib.ListN.{length}
use Rattle.laws.proofs.Fill.{Upto}
use Rattle.notation.specs.Words.{dc_byte}
use Rattle.notation.proofs.bytes_of.Given as goal

abbrev pub invariant-loop-k : goal.invariant-loop-k
invariant-loop-k l = (length l.words ≡ 496) × Upto 0 (dc_byte l.words) 1984 l.k l.bytes
