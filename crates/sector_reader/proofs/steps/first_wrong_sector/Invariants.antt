-- `first_wrong_sector` meets its contract: a search in parts, an eighth each.
use mathlib.Core.Path.{◌≡◌}
use Prim.Native.Nat.{◌*◌}
use lib.ListN.{length}
use Rattle.laws.proofs.First.{Passed}
use Rattle.cluster.specs.Reading.{wrong_sector}
use Rattle.sector_reader.proofs.steps.first_wrong_sector.Given as goal

abbrev pub invariant-loop-e : goal.invariant-loop-e
invariant-loop-e l = (length l.frames ≡ 8208) × Passed (wrong_sector l.stream l.work) (4 * l.e)
