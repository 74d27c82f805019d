-- `with_bit` meets its contract: no step leaves a byte, and the bits are as said, by computed tests over every byte (Write).
use native.Mathlib.Omega.{arith}
use Rattle.bit_writer.proofs.Write.{taken-lt, taken-le, added-lt, replaced-lt, replaced-bits}
use Rattle.bit_writer.proofs.with_bit.Goals as goal

pub overflow_mul-result : goal.overflow_mul-result
overflow_mul-result c = record { fits = taken-lt c.args.place 0 c.args.byte c.requires.0 (omega arith) c.ranges.byte.fits }

pub overflow_sub-result : goal.overflow_sub-result
overflow_sub-result c = taken-le c.args.place 0 c.args.byte c.requires.0 (omega arith) c.ranges.byte.fits

pub overflow_mul-result-2 : goal.overflow_mul-result-2
overflow_mul-result-2 c = record { fits = added-lt c.args.place c.args.b 0 c.requires.0 c.requires.1 (omega arith) }

pub overflow_add-result : goal.overflow_add-result
overflow_add-result c = record { fits = replaced-lt c.args.place c.args.b c.args.byte c.requires.0 c.requires.1 c.ranges.byte.fits }

pub returns : goal.returns
returns c = replaced-bits c.args.place c.args.b c.args.byte c.requires.0 c.requires.1 c.ranges.byte.fits
