-- `words_of` meets its contract: filled from the front (Words).
use Prim.Native.Nat.{◌*◌}
use mathlib.Core.Path.{◌≡◌}
use lib.ListN.{length}
use Rattle.laws.proofs.Fill.{Upto}
use Rattle.big_endian.specs.Words.{word_at}
use Rattle.notation.proofs.words_of.Given as goal

abbrev pub invariant-loop-n : goal.invariant-loop-n
invariant-loop-n l = (length l.bytes ≡ 1984) × Upto 0 (λ n. word_at l.bytes (4 * n)) 496 l.n l.words
