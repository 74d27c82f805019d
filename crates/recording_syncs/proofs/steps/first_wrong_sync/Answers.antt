-- `first_wrong_sync` meets its contract: a search from the front (Judging).
use mathlib.Core.Path.{◌≡◌}
use native.Mathlib.Omega.{arith}
use lib.ListN.{drop}
use Rattle.bits.specs.Bits.{bits_of}
use Rattle.laws.proofs.First.{passed_none, passed-more, first-here, first_past}
use Rattle.recording.specs.Reading.{first_wrong_sync}
use Rattle.recording_syncs.proofs.Judging.{sync-judged}
use Rattle.recording_syncs.proofs.steps.first_wrong_sync.Goals as goal

pub loop-sync-init : goal.loop-sync-init
loop-sync-init c = passed_none

pub returns-then-not-sync_right : goal.returns-then-not-sync_right
unfolding first_wrong_sync
returns-then-not-sync_right c = let is : c.loop-sync.sync ≡ first_wrong_sync (drop c.args.at (bits_of c.args.image.now)) = search (first-here, sync-judged) in
    (omega (arith, is), is)

pub loop-sync-preserved : goal.loop-sync-preserved
loop-sync-preserved c = search (passed-more, sync-judged)

pub returns : goal.returns
unfolding first_wrong_sync
returns c = λ some. omega (arith, some, first_past {n = 497} (omega arith) c.loop-sync.invariant)
