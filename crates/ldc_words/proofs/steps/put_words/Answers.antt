-- `put_words` meets its contract: a byte more of each code word (Eighth).
use Rattle.ldc_words.proofs.Eighth.{words-put-none, words-put-more, words-put-end}
use Rattle.ldc_words.proofs.steps.put_words.Goals as goal

pub loop-n-init : goal.loop-n-init
loop-n-init c = words-put-none _ _ _

pub loop-n-preserved : goal.loop-n-preserved
loop-n-preserved c = search (words-put-more)

pub returns : goal.returns
returns c = search (words-put-end)
