-- `last_word` meets its contract (Held). Assumes nothing.
use Rattle.demodulator_words.proofs.Held.{last_word}
use Rattle.demodulator_words.proofs.steps.last_word.Goals as goal

pub returns : goal.returns
returns c = last_word c.requires c.ending-end.ensures.0 c.then_some.ensures
