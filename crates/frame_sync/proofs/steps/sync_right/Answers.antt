-- `sync_right` meets its contract: group by group, up to one that differs (SyncRight). Assumes nothing.
use borrow.Author.Rules.{rules}
use Rattle.frame_sync.proofs.SyncRight.{agrees-none, agrees-more, agrees-not, agrees-all}
use Rattle.frame_sync.proofs.steps.sync_right.Goals as goal

pub loop-j-init : goal.loop-j-init
loop-j-init c = search (agrees-none, rules)

pub returns-then-step-group_of : goal.returns-then-step-group_of
returns-then-step-group_of c = search (agrees-not)

pub returns : goal.returns
returns c = search (agrees-all)

pub loop-j-preserved : goal.loop-j-preserved
loop-j-preserved c = search (rules, agrees-more)
