-- `group_data` meets its contract: 25 bits of four bytes, or 45 of eight (frame_bits, Weaving). Assumes nothing.
use Prim.Native.Nat.{◌+◌, ◌*◌, ◌-◌, ◌/◌}
use native.Mathlib.Omega.{arith}
use Rattle.frame_bits.proofs.Weaving.{first-group, later-group}
use Rattle.weaving.proofs.steps.group_data.Goals as goal

pub returns-then-i-eq0 : goal.returns-then-i-eq0
returns-then-i-eq0 c = first-group c.args.i c.if-i-eq0.true c.four_bytes.ensures

pub returns : goal.returns
returns c = let i = c.args.i in
    let past = (45 * i + 25 + 7) / 8 in
    later-group i past (8 * past - (45 * i + 25)) (omega (arith, c.if-i-eq0.false)) (omega arith) (omega arith) c.eight_bytes.ensures
