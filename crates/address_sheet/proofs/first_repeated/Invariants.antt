-- `first_repeated` meets its contract: a search from the front (Tests; laws, First).
use Prim.Native.Nat.{◌-◌}
use Rattle.laws.proofs.First.{Passed}
use Rattle.address_sheet.specs.Sheet.{repeats, entry_psn}
use Rattle.address_sheet.proofs.first_repeated.Given as goal

abbrev pub invariant-loop-later : goal.invariant-loop-later
invariant-loop-later l = Passed (repeats (entry_psn l.psns)) l.later

abbrev pub decreases-loop-later : goal.decreases-loop-later
decreases-loop-later l = l.count - l.later
