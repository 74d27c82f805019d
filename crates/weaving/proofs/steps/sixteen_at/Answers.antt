-- `sixteen_at` meets its contract: sixteen bits through two words (frame_bits, Weaving). Assumes nothing.
use mathlib.Core.Path.{refl}
use Prim.Native.Nat.{◌+◌, ◌-◌, ◌/◌, ◌%◌}
use native.Mathlib.Omega.{arith}
use lib.ListN.{get_or}
use lib.Pow.{shr_le}
use Rattle.frame_bits.specs.steps.Words.{bit_of}
use Rattle.frame_bits.proofs.Weaving.{sixteen}
use Rattle.weaving.proofs.steps.sixteen_at.Goals as goal

pub overflow_add-result-2 : goal.overflow_add-result-2
overflow_add-result-2 c = let place = c.args.place in
    let i = place / 64 + 1 in
    omega (arith, shr_le (get_or c.args.words.now i 0) (46 - place % 64), c.requires.0.below i)

pub returns : goal.returns
returns c = let place = c.args.place in
    sixteen c.args.words.now (place / 64) (place % 64) (bit_of place - 20) c.requires.0 (omega (arith, c.requires.1.some)) c.requires.1.position (omega (arith, c.requires.1.most)) refl
