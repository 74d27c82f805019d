-- `read` meets its contract: a byte a turn (Files).
use Rattle.sheet_file.proofs.Files.{reads_none, reads_more, reads_all}
use borrow.Author.Rules.{rules}
use Rattle.sheet_file.proofs.steps.read.Goals as goal

pub loop-byte-init : goal.loop-byte-init
loop-byte-init c = reads_none _ _

pub loop-byte-preserved : goal.loop-byte-preserved
loop-byte-preserved c = reads_more c.loop-byte.invariant (search rules) c.step-done.ensures

pub returns : goal.returns
returns c = reads_all c.loop-byte.invariant (search rules)
