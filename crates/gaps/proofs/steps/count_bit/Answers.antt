-- `count_bit` meets its contract, case by case (Counting). Assumes nothing.
use native.Mathlib.Omega.{arith}
use Prim.Native.Nat.{◌-◌}
use Rattle.gaps.proofs.Counting.{zero-counted, empty-counted, long-counted, gap-counted}
use borrow.Author.Rules.{rules}
use Rattle.gaps.proofs.steps.count_bit.Goals as goal

pub returns-then-bit-eq0 : goal.returns-then-bit-eq0
returns-then-bit-eq0 c = search (zero-counted)

pub returns-then-zeros-eq0 : goal.returns-then-zeros-eq0
returns-then-zeros-eq0 c = search (empty-counted)

pub returns-then-zeros-gt8 : goal.returns-then-zeros-gt8
returns-then-zeros-gt8 c = search (long-counted)

pub overflow_add-counts : goal.overflow_add-counts
overflow_add-counts c = omega (arith, c.requires.0.most (c.args.zeros - 1))

pub returns : goal.returns
returns c = search (gap-counted, rules)
