-- What the filled table says. Assumes nothing.
use mathlib.Core.Path.{◌∙◌}
use mathlib.Core.List.{List}
use Prim.Native.Nat.{ℕ, ◌+◌, ◌*◌}
use native.Mathlib.Omega.{arith}
use Rattle.remainders.specs.steps.Remainders.{AreRemainders}
use Rattle.register.specs.steps.Register.{FirstTable}
use Rattle.remainder_rows.specs.steps.Rows.{FilledTo}
use Rattle.remainder_rows.proofs.Rows.{entry_at, first-at}

pub filled-all : {table : List ℕ} → FilledTo 65536 table → AreRemainders table
filled-all filled = record { at = λ k b j hk hb hj. filled.below (8192 * k + 32 * b + j) (omega arith) ∙ entry_at k b j hb hj }

pub all_first : {table : List ℕ} → AreRemainders table → FirstTable table
all_first {table} are = record { at = λ b j hb hj. first-at table b j ∙ are.at 0 b j (omega arith) hb hj }
