-- `edc` meets its contract: the register holds the code of the bytes passed, eight or one more each turn (Loops).
use mathlib.Core.Path.{◌≡◌}
use Prim.Native.Nat.{◌+◌, ◌*◌}
use lib.ListN.{take}
use Rattle.edc.specs.Edc.{edc_of}
use Rattle.edc.proofs.edc.Given as goal

abbrev pub invariant-loop-k : goal.invariant-loop-k
invariant-loop-k l = l.register ≡ edc_of (take (8 * l.k) l.bytes)

abbrev pub invariant-loop-byte : goal.invariant-loop-byte
invariant-loop-byte l = l.register ≡ edc_of (take (8 * l.eights + l.byte-index) l.bytes)
