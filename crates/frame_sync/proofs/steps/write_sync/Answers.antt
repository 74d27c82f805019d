-- `write_sync` meets its contract: group by group (Writing). Assumes nothing.
use Rattle.frame_sync.proofs.Writing.{sync-none, sync-more, sync-all, sync-length}
use borrow.Author.Rules.{rules}
use Rattle.frame_sync.proofs.steps.write_sync.Goals as goal

pub loop-j-init : goal.loop-j-init
loop-j-init c = search (sync-none)

pub shape_of-image : goal.shape_of-image
shape_of-image c = search (sync-length)

pub returns : goal.returns
returns c = search (sync-all)

pub loop-j-preserved : goal.loop-j-preserved
loop-j-preserved c = search (rules, sync-more)
