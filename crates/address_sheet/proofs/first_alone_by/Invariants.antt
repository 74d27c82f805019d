-- `first_alone_by` meets its contract: a search from the front (Tests; laws, First).
use Prim.Native.Nat.{◌-◌}
use Rattle.laws.proofs.First.{Passed}
use Rattle.address_sheet.specs.Sheet.{alone_by, entry_psn}
use Rattle.address_sheet.proofs.first_alone_by.Given as goal

abbrev pub invariant-loop-i : goal.invariant-loop-i
invariant-loop-i l = Passed (alone_by l.number (entry_psn l.psns)) l.i

abbrev pub decreases-loop-i : goal.decreases-loop-i
decreases-loop-i l = l.count - l.i
