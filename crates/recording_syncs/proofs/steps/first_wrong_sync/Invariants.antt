-- `first_wrong_sync` meets its contract: a search from the front (Judging).
use lib.ListN.{drop}
use Rattle.bits.specs.Bits.{bits_of}
use Rattle.laws.proofs.First.{Passed}
use Rattle.recording.specs.Reading.{wrong_sync}
use Rattle.recording_syncs.proofs.steps.first_wrong_sync.Given as goal

abbrev pub invariant-loop-sync : goal.invariant-loop-sync
invariant-loop-sync l = Passed (wrong_sync (drop l.at (bits_of l.image))) l.sync
