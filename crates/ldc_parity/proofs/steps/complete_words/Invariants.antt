-- `complete_words` meets its contract: one code word after the other (ldc_words, Eighth).
use Prim.Native.Nat.{◌*◌, ◌/◌, ◌%◌}
use lib.ListN.{get_or, take, drop}
use Rattle.laws.proofs.Fill.{Upto}
use Rattle.ldc_words.specs.steps.Eighth.{completed}
use Rattle.ldc_parity.proofs.steps.complete_words.Given as goal

abbrev pub invariant-loop-j : goal.invariant-loop-j
invariant-loop-j l = Upto 0 (λ k. get_or (completed (take 216 (drop (216 * (k / 248)) l.frames))) (k % 248) 0) 9424 (248 * l.j) l.words
