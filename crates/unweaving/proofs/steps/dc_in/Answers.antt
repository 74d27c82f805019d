-- `dc_in` meets its contract: a number made bit by bit (frame_bits, Unweaving). Assumes nothing.
use Prim.Native.Nat.{◌<◌, ◌≤◌}
use native.Mathlib.Omega.{arith}
use lib.Seq.{get_or-take, length-take-le}
use Rattle.frame_bits.proofs.Unweaving.{number-none, number_more, number-all, number-room, dc-word, dc-of-word}
use Rattle.unweaving.proofs.steps.dc_in.Goals as goal

pub loop-word-init : goal.loop-word-init
loop-word-init c = number-none

pub overflow_mul-dc : goal.overflow_mul-dc
overflow_mul-dc c = omega (arith, number-room c.loop-word.invariant 31 (omega arith))

pub overflow_add-dc : goal.overflow_add-dc
overflow_add-dc c = omega (arith, number-room c.loop-word.invariant 31 (omega arith))

pub loop-word-preserved : goal.loop-word-preserved
loop-word-preserved c = let words = c.args.words.now in
    let i = c.loop-word.word-index in
    let inside : i < 28 = omega (arith, length-take-le 28 words (omega arith)) in
    rw (get_or-take 28 words i 0 inside) (number_more c.loop-word.invariant inside (dc-of-word words i inside))

pub returns : goal.returns
returns c = let all : 28 ≤ c.loop-word.word-index = omega (arith, length-take-le 28 c.args.words.now (omega arith)) in
    dc-word _ (number-all c.loop-word.invariant all)
