-- `is_code_word` meets its contract: no other bytes than the parity give the roots (column, Parity). Assumes nothing.
use mathlib.Core.Path.{ap}
use Prim.Native.Nat.{◌-◌}
use native.Mathlib.Omega.{arith}
use lib.ListN.{length, take}
use Rattle.column.proofs.Parity.{parity-length, ends-in, ends-test}
use Rattle.code_word.proofs.steps.is_code_word.Goals as goal

pub returns : goal.returns
returns c = let column = c.args.column.now in
    let parity = c.parity_32_by.ensures in
    ends-test 32 (length column - 32) column (omega arith) (λ k. (c.type_inv.column k).fits) (omega arith) parity (ends-in (omega (arith, parity-length 32 (take (length column - 32) column), ap length parity)) c.ends_with.ensures.value)
