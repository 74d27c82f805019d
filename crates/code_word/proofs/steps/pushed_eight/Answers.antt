-- `pushed_eight` meets its contract: the loop adds what the eight bytes leave (register, Eight). Assumes nothing.
use native.Mathlib.Omega.{arith}
use Rattle.register.proofs.Eight.{filling-none, padded-zeros, filling-more, eight-in}
use borrow.Author.Rules.{rules}
use Rattle.code_word.proofs.steps.pushed_eight.Goals as goal

pub loop-j-init : goal.loop-j-init
loop-j-init c = search (filling-none, padded-zeros, arith)

pub loop-j-preserved : goal.loop-j-preserved
loop-j-preserved c = filling-more (search rules) c.added.ensures c.loop-j.invariant

pub returns : goal.returns
returns c = let filling = c.loop-j.invariant in (
  filling.padded,
  eight-in _ _ (search rules) c.requires.1.0 c.requires.1.1 c.fronts-eight.ensures.0 filling,
)
