-- `modulate_words` meets its contract: sixteen bits a turn, at the place that goes with it (frame_bits, Weaving). Assumes nothing.
use Prim.Native.Nat.{◌/◌, ◌%◌}
use native.Mathlib.Nat.{mod-lt, zero-lt-suc}
use native.Mathlib.Omega.{arith}
use borrow.Author.Rules.{rules}
use Rattle.modulator.proofs.Turning.{turning-next, turning-second, turning-more, turning-last, turning-all}
use Rattle.frame_bits.proofs.Weaving.{at-inside, at_more, at-pairs}
use Rattle.frame_modulation.proofs.Going.{going-none, going-inside, going-small}
use Rattle.frame_modulation.proofs.steps.modulate_words.Goals as goal

pub loop-k-init : goal.loop-k-init
loop-k-init c = let pre = c.requires in going-none pre.0.1.0 pre.1 pre.0.1.1 c.odd-state.ensures

pub sixteen_at-sixteen-requires : goal.sixteen_at-sixteen-requires
sixteen_at-sixteen-requires c = going-inside c.loop-k.invariant c.loop-k-test.true

pub byte_at-one-requires : goal.byte_at-one-requires
byte_at-one-requires c = (search rules, (c.loop-k.invariant.turning.holding.moves.below, omega (arith, c.sixteen_at-sixteen.ensures.small)))

pub byte_at-two-requires : goal.byte_at-two-requires
byte_at-two-requires c = let going = c.loop-k.invariant in
    let next =
    turning-next going.turning (c.sixteen_at-sixteen.result / 256) c.byte_at-one.result (omega (arith, c.sixteen_at-sixteen.ensures.small))
    c.byte_at-one.ensures c.state.ensures in
    (search rules, (next, search rules))

pub more-requires : goal.more-requires
more-requires c = search (going-small)

pub more-all-requires : goal.more-all-requires
more-all-requires c = let going = c.loop-k.invariant in
    turning-second going.turning (c.sixteen_at-sixteen.result / 256) c.byte_at-one.result (omega (arith, c.sixteen_at-sixteen.ensures.small))
    c.byte_at-one.ensures going.around.most c.more.ensures

pub sixteen_on-place-requires : goal.sixteen_on-place-requires
sixteen_on-place-requires c = at-inside c.loop-k.invariant.stands c.loop-k-test.true

pub loop-k-preserved : goal.loop-k-preserved
loop-k-preserved c = let turn = c.loop-k in
    let going = turn.invariant in
    let word = c.sixteen_at-sixteen in
    let more =
    turning-more going.turning (word.result / 256) (word.result % 256) c.byte_at-one.result c.byte_at-two.result c.loop-k-test.true
    going.around.some (at-pairs going.stands _ c.loop-k-test.true word.ensures) (omega (arith, word.ensures.small))
    (mod-lt word.result (zero-lt-suc 255)) c.byte_at-one.ensures c.state.ensures c.byte_at-two.ensures c.more.ensures
    c.more-all.ensures c.high.ensures c.put_three.ensures c.low-held.ensures c.state-state.ensures in
    record { words_are = going.words_are; around = going.around; turning = more; stands = at_more going.stands c.sixteen_on-place.ensures }

pub ended-all-requires : goal.ended-all-requires
ended-all-requires c = search (going-small)

pub closed-requires : goal.closed-requires
closed-requires c = let going = c.loop-k.invariant in
    let small = turning-last going.turning c.last_two.result c.last_two.ensures.small c.last_at-end.ensures c.ended-all.ensures in
    (small, going.around.most)

pub shape_of-out : goal.shape_of-out
shape_of-out c = omega (arith, c.put_five.ensures.size, c.loop-k.invariant.turning.size, c.requires.0.1.1)

pub returns : goal.returns
returns c = let going = c.loop-k.invariant in
    let last = c.last_two in
    turning-all going.turning last.result last.ensures.small c.loop-k-test.false going.around.most going.around.back
    last.ensures.pairs-are c.last_at-end.ensures c.ended-all.ensures c.closed.ensures c.put_five.ensures
