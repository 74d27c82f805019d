-- `read_three` meets its contract: case by case of the step's definition (Read). Assumes nothing.
use Prim.Native.Nat.{◌%◌}
use native.Mathlib.Omega.{arith}
use Rattle.bits.specs.Bits.{bits_of}
use Rattle.bits.proofs.Bits.{length-bits}
use Rattle.bits.proofs.Read.{three-low, step-short, step-moves, step_stays}
use Rattle.bits.proofs.read_three.Goals as goal

pub returns-then-bytes-last : goal.returns-then-bytes-last
returns-then-bytes-last c = let args = c.args in
    step-short (bits_of args.bytes.now) args.at (omega (arith, length-bits args.bytes.now))

pub returns-then-at-gt18446744073709551612 : goal.returns-then-at-gt18446744073709551612
returns-then-at-gt18446744073709551612 c = let args = c.args in
    let b = bits_of args.bytes.now in
    step_stays b args.at (c.low_bits.result % 8) (omega (arith, length-bits args.bytes.now)) (omega arith) (three-low b args.at c.low_bits.result c.low_bits.ensures)

pub returns : goal.returns
returns c = let args = c.args in
    let b = bits_of args.bytes.now in
    step-moves b args.at (c.low_bits.result % 8) (omega (arith, length-bits args.bytes.now)) (omega arith) (three-low b args.at c.low_bits.result c.low_bits.ensures)
