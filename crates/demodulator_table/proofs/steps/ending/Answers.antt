-- `ending` meets its contract: an entry of the table of ends. Assumes nothing.
use mathlib.Core.Bool.{Bool, true, false}
use mathlib.Core.List.{List}
use mathlib.Core.Path.{ap, ◌∙◌}
use Prim.Native.Nat.{ℕ, ◌+◌, ◌*◌, ◌<◌}
use native.Mathlib.Omega.{arith}
use lib.Dec.{ltb, ltb→lt}
use lib.ListN.{get_or}
use Rattle.laws.proofs.Finite.{all, all-at}
use Rattle.automaton.specs.Automaton.{ends, ending}
use Rattle.automaton.proofs.Entries.{from-bool}
use Rattle.demodulator_table.proofs.steps.ending.Goals as goal

small : (s : ℕ) (hash : Bool) → s < 18 → ending s hash < 65536
unfolding all ends
small s true h = ltb→lt (ending s true) 65536 (all-at 18 (λ s. ltb (ending s true) 65536) tt s h)
small s false h = ltb→lt (ending s false) 65536 (all-at 18 (λ s. ltb (ending s false) 65536) tt s h)

pub returns : goal.returns
returns c = let args = c.args in
    let s = args.s in
    let is = c.from-2.ensures
    ∙ ap (λ (l : List ℕ). get_or l (2 * s + c.from.result) 0) c.ends-ends.ensures
    ∙ ap (λ (n : ℕ). get_or ends (2 * s + n) 0) (c.from.ensures ∙ from-bool args.hash) in
    (is, omega (arith, is, small s args.hash c.requires))
