-- `read_bit` meets its contract: the byte holds the bit, and past the end there is none (Bits).
use mathlib.Core.Path.{sym}
use Rattle.bits.proofs.Bits.{get_d_past, get_d_bits}
use native.Mathlib.Omega.{arith}
use Rattle.bits.proofs.read_bit.Goals as goal

pub returns-then-bytes-i : goal.returns-then-bytes-i
returns-then-bytes-i c = let args = c.args in sym (get_d_past args.bytes.now args.at (omega arith))

pub returns : goal.returns
returns c = let args = c.args in sym (get_d_bits args.bytes.now args.at (omega arith))
