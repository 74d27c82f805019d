-- `segment` meets its contract: seven turns and two groups more (Running). Assumes nothing.
use mathlib.Core.Path.{refl}
use Prim.Native.Nat.{◌+◌}
use native.Mathlib.Omega.{arith}
use Rattle.bits.specs.Bits.{bits_of}
use Rattle.demodulator_groups.proofs.Running.{more-read, still-small}
use Rattle.demodulator_groups.proofs.steps.segment.Goals as goal

pub two_on-requires : goal.two_on-requires
two_on-requires c = let args = c.args in
    (c.requires.0, (c.six.ensures.1, (c.run-x.ensures.small, still-small (bits_of args.bytes.now) args.at 21 c.requires.1.0 (omega arith) c.run-x.ensures)))

pub returns : goal.returns
returns c = let args = c.args in
    more-read (bits_of args.bytes.now) args.at 21 2 (args.at + 63) 23 (omega arith) refl c.run-x.ensures c.six.ensures.0 c.two_on.ensures
