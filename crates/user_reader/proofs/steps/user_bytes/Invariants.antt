-- `user_bytes` meets its contract: one eighth after the other (ldc_words, Eighth).
use mathlib.Core.Path.{◌≡◌}
use Prim.Native.Nat.{◌*◌}
use lib.ListN.{length}
use Rattle.laws.proofs.Fill.{Upto}
use Rattle.cluster.specs.Reading.{user_byte_in}
use Rattle.user_reader.proofs.steps.user_bytes.Given as goal

abbrev pub invariant-loop-e : goal.invariant-loop-e
invariant-loop-e l = (length l.frames ≡ 8208) × Upto 0 (user_byte_in l.stream l.work) 65536 (8192 * l.e) l.user
