-- `nine` meets its contract: nine bits are three groups (Windows). Assumes nothing.
use native.Mathlib.Omega.{arith}
use Rattle.bits.specs.Bits.{bits_of}
use Rattle.bits.proofs.Bits.{bits-bits}
use Rattle.demodulator_groups.proofs.Windows.{nine-groups}
use Rattle.demodulator_groups.proofs.steps.nine.Goals as goal

pub returns : goal.returns
returns c = let args = c.args in
    (nine-groups (bits_of args.bytes.now) (bits-bits args.bytes.now) args.at c.low_bits.result c.low_bits.ensures, omega arith)
