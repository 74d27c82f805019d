-- `word_at` meets its contract: 11 before the frame's end, or the walk (Walking). Assumes nothing.
use mathlib.Core.Path.{◌∙◌}
use lib.ListN.{drop}
use Rattle.modulation.specs.Bits.{pairs}
use Rattle.modulation.specs.steps.Words.{bits_in}
use Rattle.word_walk.proofs.Walking.{word-plain, word-walked}
use Rattle.word_walk.proofs.steps.word_at.Goals as goal

pub returns-then-ends_plain : goal.returns-then-ends_plain
returns-then-ends_plain c = word-plain (drop c.args.p (pairs (bits_in c.args.words.now))) c.ends_plain.ensures c.if-ends_plain.true

pub returns : goal.returns
returns c = c.walk.ensures ∙ word-walked (drop c.args.p (pairs (bits_in c.args.words.now))) c.ends_plain.ensures c.if-ends_plain.false
