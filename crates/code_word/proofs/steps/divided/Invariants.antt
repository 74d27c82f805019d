-- `divided` meets its contract: both loops hold the remainder of the bytes passed. Assumes nothing.
use Prim.Native.Nat.{◌+◌, ◌*◌}
use lib.ListN.{take}
use Rattle.register.specs.steps.Register.{divisor, Padded}
use Rattle.column.proofs.Register.{Divided}
use Rattle.code_word.proofs.steps.divided.Given as goal

abbrev pub invariant-loop-k : goal.invariant-loop-k
invariant-loop-k l = Padded l.register × Divided divisor l.message (8 * l.k) (take 32 l.register)

abbrev pub invariant-loop-byte : goal.invariant-loop-byte
invariant-loop-byte l = Padded l.register × Divided divisor l.message (8 * l.eights + l.byte-index) (take 32 l.register)
