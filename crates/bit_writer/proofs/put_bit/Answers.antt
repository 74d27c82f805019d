-- `put_bit` meets its contract: a byte of the list gives way to the one with the bit replaced (Write).
use Rattle.bit_writer.proofs.Write.{put-bits, put-past}
use native.Mathlib.Omega.{arith}
use Rattle.bit_writer.proofs.put_bit.Goals as goal

pub returns-then-i-bytes : goal.returns-then-i-bytes
returns-then-i-bytes c = let args = c.args in
    let pre = c.requires in
    put-bits args.bytes.now args.i args.place args.b c.with_bit.result (omega arith) pre.0 c.with_bit.ensures

pub returns-else-i-bytes : goal.returns-else-i-bytes
returns-else-i-bytes c = let args = c.args in put-past args.bytes.now args.i args.place args.b (omega arith)
