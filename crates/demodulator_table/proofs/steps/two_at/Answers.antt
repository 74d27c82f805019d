-- `two_at` meets its contract: two groups, one by one, by a test (automaton, Entries). Assumes nothing.
use mathlib.Core.Path.{sym, ap, subst, ◌∙◌}
use Prim.Native.Nat.{ℕ, ◌/◌, ◌%◌, ◌<◌}
use native.Mathlib.Omega.{arith}
use Rattle.automaton.specs.steps.Table.{more}
use Rattle.automaton.proofs.Entries.{more-bound, more-state, two_made}
use Rattle.demodulator_table.proofs.steps.two_at.Goals as goal

pub one_more-requires : goal.one_more-requires
one_more-requires c = let k = c.args.k in
    let is = c.one_more-a.ensures in (
      c.requires.0,
      (
        omega (arith, is, more-bound (k % 18) (k / 144) (omega arith) (omega (arith, c.requires.1))),
        (
          subst (λ (n : ℕ). n % 32 < 18) (sym is) (more-state (k % 18) (k / 144) (omega arith) (omega (arith, c.requires.1))),
          omega arith,
        ),
      ),
    )

pub returns : goal.returns
returns c = let k = c.args.k in
    c.one_more.ensures ∙ ap (λ (a : ℕ). more a (k / 18 % 8)) c.one_more-a.ensures ∙ two_made k c.requires.1
