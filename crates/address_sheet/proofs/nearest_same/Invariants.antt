-- `nearest_same` meets its contract: a search back among the earlier entries (Tests).
use Rattle.address_sheet.specs.Sheet.{entry_psn}
use Rattle.address_sheet.proofs.Tests.{NoneSince}
use Rattle.address_sheet.proofs.nearest_same.Given as goal

abbrev pub invariant-loop-j : goal.invariant-loop-j
invariant-loop-j l = NoneSince (entry_psn l.psns) l.i l.j

abbrev pub decreases-loop-j : goal.decreases-loop-j
decreases-loop-j l = l.j
