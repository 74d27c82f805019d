-- `take_bytes` meets its contract: a turn takes the byte of an even code word and that of the odd one behind it (Eighth).
use Prim.Native.Nat.{◌+◌, ◌*◌}
use lib.ListN.{get_or}
use Rattle.laws.specs.Scatter.{Scattered}
use Rattle.cluster.specs.steps.Places.{word_index}
use Rattle.ldc_words.proofs.steps.take_bytes.Given as goal

abbrev pub invariant-loop-i : goal.invariant-loop-i
invariant-loop-i l = Scattered 0 (λ j. 248 * j + l.n) (λ j. get_or l.work (word_index (38 * l.e + j) l.n) 0) l.initial.words (2 * l.i) l.words
