-- `tally_of` meets its contract, case by case of the definition (TallyCases). Assumes nothing.
use Rattle.frame_gaps.proofs.TallyCases.{refused-length, refused-hash, refused-number, refused-dc, tallied-counts}
use Rattle.frame_gaps.proofs.tally_of.Goals as goal

pub returns-then-input-ne161 : goal.returns-then-input-ne161
returns-then-input-ne161 c = search (refused-length)

pub returns-then-hash-gt1 : goal.returns-then-hash-gt1
returns-then-hash-gt1 c = search (refused-hash)

pub returns-then-number-gt6 : goal.returns-then-number-gt6
returns-then-number-gt6 c = search (refused-number)

pub returns-then-dc-gt268435455 : goal.returns-then-dc-gt268435455
returns-then-dc-gt268435455 c = search (refused-dc)

pub returns : goal.returns
returns c = search (tallied-counts)
