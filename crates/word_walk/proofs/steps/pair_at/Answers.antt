-- `pair_at` meets its contract: two bits of a word (Pairs). Assumes nothing.
use Rattle.word_walk.proofs.Pairs.{pair_is}
use Rattle.word_walk.proofs.steps.pair_at.Goals as goal

pub returns : goal.returns
returns c = pair_is c.args.words.now c.args.p c.requires.1
