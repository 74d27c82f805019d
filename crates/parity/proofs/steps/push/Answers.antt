-- `push` meets its contract: the loop moves the register on, place by place, and the last place follows. Assumes nothing.
use mathlib.Core.Path.{◌≡◌, subst}
use Prim.Native.Nat.{ℕ, ◌-◌}
use native.Mathlib.Omega.{arith}
use lib.ListN.{length}
use Rattle.column.proofs.Register.{Moved, moved_none, moved-next, moved-last}
use borrow.Author.Rules.{rules}
use Rattle.parity.proofs.steps.push.Goals as goal

pub loop-j-init : goal.loop-j-init
loop-j-init c = moved_none c.requires.are_tables (λ k. (c.type_inv.generator k).fits) (search rules) (search rules) c.sum-f.ensures

pub loop-j-preserved : goal.loop-j-preserved
loop-j-preserved c = moved-next c.product_by.ensures c.loop-j.invariant (search rules) c.sum-next.ensures

pub returns : goal.returns
returns c = let args = c.args in
    let end : c.loop-j.j ≡ length args.register.now - 1 = omega arith in
    let moved = subst (λ (n : ℕ). Moved args.powers.now args.logs.now args.generator.now args.register.now args.byte c.sum-f.result.0 n c.loop-j.register) end c.loop-j.invariant in
    moved-last c.product_by-end.ensures moved (omega arith)
