-- `allowed_at` meets its contract, by the row's condition (conversion, Fitting). Assumes nothing.
use native.Mathlib.Nat.{mod-lt}
use native.Mathlib.Omega.{arith}
use lib.Pow.{pow_pos}
use Prim.Native.Nat.{◌*◌, ◌-◌}
use Rattle.conversion.proofs.CodedRows.{code-sized}
use Rattle.conversion.proofs.Fitting.{allowed-if, allowed-before-010, allowed-at-end}
use borrow.Author.Rules.{rules}
use Rattle.few_pairs.proofs.steps.allowed_at.Goals as goal

pub overflow_sub-count : goal.overflow_sub-count
overflow_sub-count c = omega (arith, c.requires.1.1.1, code-sized c.row_at-r.ensures)

pub overflow_sub-count-in-Before010 : goal.overflow_sub-count-in-Before010
overflow_sub-count-in-Before010 c = omega (arith, c.requires.1.1.1, code-sized c.row_at-r.ensures)

pub starts_with_010-requires : goal.starts_with_010-requires
starts_with_010-requires c = let left = c.args.count - c.row_at-r.result.pairs in
    (omega (arith, c.requires.1.0), rw c.last_pairs.ensures (mod-lt c.args.pairs (pow_pos (2 * left))))

pub returns-in-Before010 : goal.returns-in-Before010
returns-in-Before010 c = search (rules, allowed-if, allowed-before-010)

pub returns-in-AtEnd : goal.returns-in-AtEnd
returns-in-AtEnd c = search (rules, allowed-if, allowed-at-end)
