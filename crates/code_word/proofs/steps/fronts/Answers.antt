-- `fronts` meets its contract: a byte a turn. Assumes nothing.
use mathlib.Core.Path.{◌∙◌}
use native.Mathlib.Omega.{arith}
use Rattle.register.proofs.Eight.{fronts-none, fronts-more, fronts-all}
use borrow.Author.Rules.{rules}
use Rattle.code_word.proofs.steps.fronts.Goals as goal

pub loop-k-init : goal.loop-k-init
loop-k-init c = fronts-none (search rules)

pub loop-k-preserved : goal.loop-k-preserved
loop-k-preserved c = fronts-more (search rules) (c.from.ensures ∙ c.plus.ensures) (omega arith) c.loop-k.invariant

pub returns : goal.returns
returns c = fronts-all (omega arith) c.loop-k.invariant
