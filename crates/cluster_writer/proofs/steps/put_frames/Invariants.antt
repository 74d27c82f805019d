-- `put_frames` meets its contract: one data frame after the other (Encoding).
use Prim.Native.Nat.{◌+◌, ◌*◌}
use Rattle.laws.proofs.Fill.{Upto}
use Rattle.ldc.specs.LdcBlock.{data_byte}
use Rattle.cluster.specs.EccCluster.{scrambled_frames}
use Rattle.cluster_writer.proofs.steps.put_frames.Given as goal

abbrev pub invariant-loop-f : goal.invariant-loop-f
invariant-loop-f l = Upto 0 (λ p. data_byte (scrambled_frames l.stream l.user) (8208 * l.e + p)) 8208 (2052 * l.f) l.frames
