-- `put_bytes` meets its contract: a turn puts the byte of an even code word and that of the odd one behind it (Eighth).
use Prim.Native.Nat.{◌+◌, ◌*◌}
use lib.ListN.{get_or}
use Rattle.laws.specs.Scatter.{Scattered}
use Rattle.cluster.specs.steps.Places.{word_index}
use Rattle.ldc_words.proofs.steps.put_bytes.Given as goal

abbrev pub invariant-loop-i : goal.invariant-loop-i
invariant-loop-i l = Scattered 0 (λ j. word_index (38 * l.e + j) l.n) (λ j. get_or l.words (248 * j + l.n) 0) l.initial.work (2 * l.i) l.work
