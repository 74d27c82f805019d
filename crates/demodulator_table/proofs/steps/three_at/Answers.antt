-- `three_at` meets its contract: the entry for two groups stands, and one group more (automaton, Entries). Assumes nothing.
use mathlib.Core.Path.{◌∙◌}
use Prim.Native.Nat.{◌+◌, ◌*◌, ◌-◌, ◌/◌, ◌%◌}
use native.Mathlib.Omega.{arith}
use Rattle.automaton.proofs.Entries.{there-bound, there-state, three_made}
use Rattle.demodulator_table.proofs.steps.three_at.Goals as goal

pub one_more-requires : goal.one_more-requires
one_more-requires c = let twos = c.requires.1.0 in
    let j = c.args.k - 1152 in
    let at = j / 144 * 18 + j % 18 in (
      c.requires.0,
      (there-bound twos at (omega (arith, c.requires.1.1)), (there-state twos at (omega (arith, c.requires.1.1)), omega arith)),
    )

pub returns : goal.returns
returns c = c.one_more.ensures ∙ three_made c.requires.1.0 c.args.k c.requires.1.1.0 c.requires.1.1.1
