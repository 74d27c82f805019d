-- `write_bit` meets its contract: a position is a byte and a place in it (Write).
use Prim.Native.Nat.{◌%◌}
use Rattle.bits.specs.Bits.{bits_of}
use Rattle.bit_writer.proofs.Write.{bit-written}
use Rattle.bit_writer.proofs.write_bit.Goals as goal

pub returns : goal.returns
returns c = let args = c.args in
    bit-written (bits_of args.bytes.now) _ args.at (args.b % 2) c.put_bit.ensures
