-- `nearest_same` meets its contract: a search back among the earlier entries (Tests).
use native.Mathlib.Omega.{arith}
use Rattle.address_sheet.specs.Sheet.{entry_psn}
use Rattle.address_sheet.proofs.Tests.{same_here, same-on, same_none}
use borrow.Author.Rules.{rules}
use Rattle.std.proofs.lemmas.Grind.{common_steps}
use Rattle.address_sheet.proofs.nearest_same.Goals as goal

pub loop-j-init : goal.loop-j-init
loop-j-init c = record { within = omega arith; differ = λ k from h. absurd (omega (arith, from, h)) }

pub returns-then-psns-j : goal.returns-then-psns-j
returns-then-psns-j c = search (rules, same_here)

pub returns : goal.returns
returns c = search (rules, same_none)
