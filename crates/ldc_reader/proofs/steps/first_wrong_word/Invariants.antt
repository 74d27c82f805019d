-- `first_wrong_word` meets its contract: a search in parts, an eighth each.
use mathlib.Core.Path.{◌≡◌}
use Prim.Native.Nat.{◌*◌}
use lib.ListN.{length}
use Rattle.laws.proofs.First.{Passed}
use Rattle.cluster.specs.Reading.{wrong_word}
use Rattle.ldc_reader.proofs.steps.first_wrong_word.Given as goal

abbrev pub invariant-loop-e : goal.invariant-loop-e
invariant-loop-e l = (length l.words ≡ 9424) × Passed (wrong_word l.work) (38 * l.e)
