-- `ends_plain` meets its contract: the first pair, and how many are behind it (Walking). Assumes nothing.
use Rattle.modulation.specs.Bits.{pairs}
use Rattle.modulation.specs.steps.Words.{bits_in}
use Rattle.word_walk.proofs.Pairs.{pair-count}
use Rattle.word_walk.proofs.Walking.{ends-11, ends-other}
use mathlib.Core.Path.{◌∙◌}
use borrow.Author.Rules.{rules}
use borrow.Author.Tests.{ne_eqb}
use Rattle.word_walk.proofs.steps.ends_plain.Goals as goal

pub returns-then-pair_at-eq3 : goal.returns-then-pair_at-eq3
returns-then-pair_at-eq3 c = let ws = c.args.words.now in
    ends-11 (pairs (bits_in ws)) (pair-count ws) c.args.p c.requires.1 c.pair_at.result c.pair_at.ensures (search rules)

pub returns-else-pair_at-eq3 : goal.returns-else-pair_at-eq3
returns-else-pair_at-eq3 c = let ws = c.args.words.now in
    ne_eqb c.pair_at.result 3 c.if-pair_at-eq3.false
    ∙ ends-other (pairs (bits_in ws)) (pair-count ws) c.args.p c.requires.1 c.pair_at.result c.pair_at.ensures c.if-pair_at-eq3.false
