-- `five_in` meets its contract: forty bits through two words (frame_bits, Unweaving). Assumes nothing.
use mathlib.Core.Path.{refl}
use Prim.Native.Nat.{◌+◌, ◌*◌, ◌-◌, ◌/◌, ◌%◌}
use native.Mathlib.Omega.{arith}
use lib.ListN.{get_or}
use lib.Pow.{shr_le}
use Rattle.frame_bits.proofs.Unweaving.{five-bytes}
use Rattle.unweaving.proofs.steps.five_in.Goals as goal

pub overflow_add-result-2 : goal.overflow_add-result-2
overflow_add-result-2 c = let p = 40 * c.args.m + 20 in
    let i = p / 45 + 1 in
    omega (arith, shr_le (get_or c.args.words.now i 0 / 2) (45 - p % 45), c.requires.0.below i)

pub returns : goal.returns
returns c = five-bytes c.args.words.now c.args.m c.requires.1 c.requires.0.below refl
