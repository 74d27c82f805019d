-- `put` meets its contract: what is left of the bytes is put behind what is done (Texts).
use Rattle.texts.proofs.Texts.{behind_more, behind-all}
use Rattle.texts.proofs.put.Goals as goal

pub loop-byte-preserved : goal.loop-byte-preserved
loop-byte-preserved c = search (behind_more)

pub returns : goal.returns
returns c = search (behind-all)
