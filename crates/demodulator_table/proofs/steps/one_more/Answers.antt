-- `one_more` meets its contract: an entry of the automaton, which leaves room for the number (automaton, Entries). Assumes nothing.
use mathlib.Core.List.{List}
use mathlib.Core.Path.{ap}
use Prim.Native.Nat.{ℕ, ◌+◌, ◌*◌, ◌/◌, ◌%◌}
use native.Mathlib.Omega.{arith}
use lib.ListN.{get_or}
use Rattle.automaton.proofs.Entries.{entry-bound}
use Rattle.demodulator_table.proofs.steps.one_more.Goals as goal

pub overflow_add-result-2 : goal.overflow_add-result-2
overflow_add-result-2 c = let args = c.args in
    let pre = c.requires in
    let e = ap (λ (l : List ℕ). get_or l (8 * (args.a % 32) + args.g) 0) pre.0 in
    omega (arith, e, pre.1.0, entry-bound (args.a % 32) args.g pre.1.1.0 pre.1.1.1)

pub returns : goal.returns
returns c = let args = c.args in
    ap (λ (l : List ℕ). args.a / 32 * 128 + get_or l (8 * (args.a % 32) + args.g) 0) c.requires.0
