-- `first_alone_by` meets its contract: a search from the front (Tests; laws, First).
use Prim.Native.Nat.{◌-◌}
use Rattle.laws.proofs.First.{passed_none, first_past}
use Rattle.address_sheet.proofs.Tests.{alone-here, alone-on}
use Rattle.address_sheet.proofs.first_alone_by.Goals as goal

pub loop-i-init : goal.loop-i-init
loop-i-init c = passed_none

pub returns-then-number : goal.returns-then-number
returns-then-number c = search (alone-here)

pub loop-i-preserved : goal.loop-i-preserved
loop-i-preserved c = search (alone-on)

pub returns : goal.returns
returns c = search (first_past)
