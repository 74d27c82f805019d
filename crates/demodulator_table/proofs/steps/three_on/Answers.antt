-- `three_on` meets its contract: a look-up moves state and number on (automaton, Entries). Assumes nothing.
use mathlib.Core.List.{List}
use mathlib.Core.Path.{refl, ap, ◌∙◌}
use Prim.Native.Nat.{ℕ, ◌+◌, ◌*◌, ◌%◌}
use lib.ListN.{get_or}
use Rattle.automaton.specs.steps.Table.{three_groups}
use Rattle.automaton.proofs.Entries.{table-three, after-entry}
use Rattle.demodulator_table.proofs.steps.three_on.Goals as goal

pub returns : goal.returns
returns c = let args = c.args in
    let pre = c.requires in
    let e = c.from.ensures ∙ ap (λ (l : List ℕ). get_or l (1152 + 18 * args.v + args.x % 32) 0) pre.0 ∙ table-three args.v (args.x % 32) pre.1.0 pre.1.1.0 in
    after-entry (three_groups args.v) args.x c.from.result 2048 refl pre.1.1.0 e
