-- `most_pairs` meets its contract: word by word (Counting). Assumes nothing.
use Prim.Native.Nat.{◌-◌}
use native.Mathlib.Omega.{arith}
use Rattle.modulation.specs.Bits.{pairs}
use Rattle.modulation.specs.steps.Words.{bits_in}
use Rattle.word_walk.proofs.Pairs.{pair-count}
use Rattle.look_ahead.proofs.Counting.{counting-none, count-some, count_most, counting_more, counting-all, counting-six}
use borrow.Author.Rules.{rules}
use Rattle.look_ahead.proofs.most_pairs.Goals as goal

pub loop-p-init : goal.loop-p-init
loop-p-init c = counting-none (pairs (bits_in c.args.words.now))

pub overflow_add-p : goal.overflow_add-p
overflow_add-p c = let ws = c.args.words.now in
    let walked = c.word_at-word.result in
    omega (arith, count_most (pairs (bits_in ws)) (pair-count ws) c.loop-p.most c.loop-p.p c.loop-p.invariant (search rules) walked.needs walked.size c.word_at-word.ensures)

pub loop-p-smaller : goal.loop-p-smaller
loop-p-smaller c = let ws = c.args.words.now in
    let walked = c.word_at-word.result in
    omega (arith, count-some (pairs (bits_in ws)) (pair-count ws) c.loop-p.most c.loop-p.p c.loop-p.invariant (search rules) walked.needs walked.size c.word_at-word.ensures)

pub loop-p-preserved : goal.loop-p-preserved
loop-p-preserved c = let ws = c.args.words.now in
    let walked = c.word_at-word.result in
    counting_more (pairs (bits_in ws)) (pair-count ws) c.loop-p.most c.loop-p.p c.loop-p.invariant (search rules) walked.needs walked.size c.word_at-word.ensures
    c.max-most.result c.max-most.ensures

pub returns : goal.returns
returns c = let ws = c.args.words.now in
    let most = c.loop-p.most in
    let p = c.loop-p.p in
    (counting-six (pairs (bits_in ws)) (pair-count ws) most p c.loop-p.invariant (search rules), counting-all (pairs (bits_in ws)) (pair-count ws) most p c.loop-p.invariant (search rules))
