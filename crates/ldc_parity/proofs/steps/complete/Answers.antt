-- `complete` meets its contract, from what `parity_32_by` and `join` ensure.
use mathlib.Core.Path.{ap, ◌∙◌}
use mathlib.Core.List.{List, ◌++◌}
use Prim.Native.Nat.{ℕ}
use native.Mathlib.Omega.{arith}
use lib.ListN.{length}
use Rattle.column.proofs.Parity.{parity-length}
use Rattle.ldc_parity.proofs.steps.complete.Goals as goal

pub join-requires : goal.join-requires
join-requires c = (omega arith, (ap (length {A = ℕ}) c.parity_32_by.ensures ∙ parity-length 32 _, omega arith))

pub returns : goal.returns
returns c = let args = c.args in
    c.join.ensures ∙ ap (λ (p : List ℕ). args.information.now ++ p) c.parity_32_by.ensures
