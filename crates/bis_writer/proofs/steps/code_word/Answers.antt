-- `code_word` meets its contract, from what its steps ensure.
use Rattle.bis.specs.BisBlock.{code_word}
use Rattle.bis_writer.proofs.steps.code_word.Goals as goal

pub returns : goal.returns
unfolding code_word
returns c = cc
