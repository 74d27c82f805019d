-- `walk` meets its contract: the walk pair by pair (Walking). Assumes nothing.
use mathlib.Core.Path.{ap₂, ◌∙◌}
use Prim.Native.Nat.{◌+◌}
use native.Mathlib.Omega.{arith}
use lib.ListN.{get_or}
use Rattle.modulation.specs.Modulation.{d00}
use Rattle.modulation.specs.Bits.{pairs}
use Rattle.modulation.specs.steps.Words.{bits_in}
use Rattle.word_needs.specs.steps.Walk.{walked}
use Rattle.word_walk.proofs.Pairs.{pair-count}
use Rattle.word_walk.proofs.Walking.{walking-none, waits-below, walking-end, walking-fixed, walking-more, two-of-back}
use borrow.Author.Rules.{rules}
use Rattle.word_walk.proofs.steps.walk.Goals as goal

pub loop-n-init : goal.loop-n-init
loop-n-init c = walking-none (pairs (bits_in c.args.words.now)) c.args.p c.requires.1

pub told-next-requires : goal.told-next-requires
told-next-requires c = let ws = c.args.words.now in
    let p = c.args.p in (
      waits-below (pairs (bits_in ws)) (pair-count ws) p c.loop-n.waits c.loop-n.n c.loop-n.invariant,
      omega (arith, c.pair_at.ensures, (two-of-back (get_or (pairs (bits_in ws)) (p + c.loop-n.n) d00)).1),
    )

pub returns-then-next-ge10 : goal.returns-then-next-ge10
returns-then-next-ge10 c = let ws = c.args.words.now in
    walking-fixed (pairs (bits_in ws)) (pair-count ws) c.args.p c.loop-n.waits c.loop-n.n c.loop-n.invariant (search rules)
    c.pair_at.result c.told-next.result c.pair_at.ensures c.told-next.ensures (search rules)

pub loop-n-preserved : goal.loop-n-preserved
loop-n-preserved c = let ws = c.args.words.now in
    walking-more (pairs (bits_in ws)) (pair-count ws) c.args.p c.loop-n.waits c.loop-n.n c.loop-n.invariant (search rules)
    c.pair_at.result c.told-next.result c.pair_at.ensures c.told-next.ensures (search rules)

pub size_at_end-requires : goal.size_at_end-requires
size_at_end-requires c = let ws = c.args.words.now in
    waits-below (pairs (bits_in ws)) (pair-count ws) c.args.p c.loop-n.waits c.loop-n.n c.loop-n.invariant

pub returns : goal.returns
returns c = let ws = c.args.words.now in
    ap₂ walked (omega (arith, c.loop-n-test.false, c.loop-n.invariant.inside)) c.size_at_end.ensures
    ∙ walking-end (pairs (bits_in ws)) (pair-count ws) c.args.p c.loop-n.waits c.loop-n.n c.loop-n.invariant (search rules)
