-- `frame_words` meets its contract: a group and its dc-control bit a turn (frame_bits, Weaving). Assumes nothing.
use Rattle.frame_bits.proofs.Weaving.{words-none, words_more, words-all}
use borrow.Author.Rules.{rules}
use Rattle.weaving.proofs.steps.frame_words.Goals as goal

pub loop-i-init : goal.loop-i-init
loop-i-init c = words-none c.requires.1

pub returns : goal.returns
returns c = words-all c.loop-i-test.false c.loop-i.invariant

pub loop-i-preserved : goal.loop-i-preserved
loop-i-preserved c = search (rules, words_more)
