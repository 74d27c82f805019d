-- `pushed_byte` meets its contract: the loop adds what the byte that comes out, with the one that goes in, leaves (Eight). Assumes nothing.
use mathlib.Core.Path.{◌∙◌}
use native.Mathlib.Omega.{arith}
use Rattle.register.proofs.Eight.{filling-none, padded-zeros, byte-in}
use borrow.Author.Rules.{rules}
use Rattle.register.proofs.steps.pushed_byte.Goals as goal

pub loop-j-init : goal.loop-j-init
loop-j-init c = search (filling-none, padded-zeros, arith)

pub returns : goal.returns
returns c = let out = c.from-out.ensures in
    (c.loop-j.invariant.padded, byte-in _ (search rules) c.requires.1 (out ∙ c.plus.ensures) c.loop-j.invariant)
