-- `has_roots` meets its contract: the loop passes the roots that are there, and stops at one that is missing. Assumes nothing.
use mathlib.Core.Path.{ap, ◌∙◌}
use Rattle.galois.specs.Field.{α, power}
use Rattle.column.proofs.Roots.{rooted_none, rooted_more, rooted-fails, rooted-all}
use borrow.Author.Rules.{rules}
use Rattle.roots.proofs.has_roots.Goals as goal

pub loop-i-init : goal.loop-i-init
loop-i-init c = rooted_none _ _

pub returns-then-v-ne0 : goal.returns-then-v-ne0
returns-then-v-ne0 c = rooted-fails (search rules) (c.power.ensures ∙ ap (power α) c.from.ensures) c.value_at-v.ensures c.loop-i.invariant c.if-v-ne0.true

pub loop-i-preserved : goal.loop-i-preserved
loop-i-preserved c = rooted_more (search rules) (c.power.ensures ∙ ap (power α) c.from.ensures) c.value_at-v.ensures c.loop-i.invariant c.if-v-ne0.false

pub returns : goal.returns
returns c = rooted-all (search rules) c.loop-i.invariant
