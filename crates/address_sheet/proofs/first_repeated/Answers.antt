-- `first_repeated` meets its contract: a search from the front (Tests; laws, First).
use Prim.Native.Nat.{◌-◌}
use native.Mathlib.Omega.{arith}
use Rattle.laws.proofs.First.{passed_none, first_past}
use Rattle.address_sheet.specs.Sheet.{entry_psn}
use Rattle.address_sheet.proofs.Tests.{repeated-here, repeated-on}
use borrow.Author.Rules.{rules}
use Rattle.address_sheet.proofs.first_repeated.Goals as goal

pub loop-later-init : goal.loop-later-init
loop-later-init c = passed_none

pub returns-then-back-ne0 : goal.returns-then-back-ne0
returns-then-back-ne0 c = repeated-here (entry_psn c.args.psns) c.loop-later.invariant c.nearest_same-earlier.ensures (search rules) (λ e. omega (arith, c.if-back-ne0.true, e))

pub loop-later-preserved : goal.loop-later-preserved
loop-later-preserved c = repeated-on (entry_psn c.args.psns) c.loop-later.invariant c.nearest_same-earlier.ensures (omega (arith, c.if-back-ne0.false))

pub returns : goal.returns
returns c = search (first_past)
