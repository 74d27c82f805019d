-- `put_ldc` meets its contract: one eighth after the other (ldc_words, Eighth).
use mathlib.Core.Path.{◌≡◌}
use Prim.Native.Nat.{◌*◌}
use lib.ListN.{length}
use Rattle.cluster.specs.EccCluster.{scrambled_frames}
use Rattle.ldc_words.specs.steps.Eighth.{LdcPut}
use Rattle.cluster_writer.proofs.steps.put_ldc.Given as goal

abbrev pub invariant-loop-e : goal.invariant-loop-e
invariant-loop-e l = ((length l.frames ≡ 8208) × (length l.words ≡ 9424)) × LdcPut (scrambled_frames l.stream l.user) (38 * l.e) l.initial.work l.work
