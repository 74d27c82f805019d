-- `added` meets its contract: a byte a turn. Assumes nothing.
use mathlib.Core.Path.{refl}
use Rattle.register.specs.steps.Register.{leaves_added}
use Rattle.register.proofs.Eight.{added_more}
use borrow.Author.Rules.{rules}
use Rattle.code_word.proofs.steps.added.Goals as goal

pub loop-k-init : goal.loop-k-init
unfolding leaves_added
loop-k-init c = refl

pub entry-requires : goal.entry-requires
entry-requires c = (c.requires.0, (search rules, (c.requires.1.0 _, c.requires.1.1)))

pub loop-k-preserved : goal.loop-k-preserved
loop-k-preserved c = added_more _ _ _ _ c.loop-k.invariant c.entry.ensures c.plus-v.ensures
