-- `begin` meets its contract: three turns and four groups more (Running). Assumes nothing.
use mathlib.Core.Bool.{Bool}
use mathlib.Core.Path.{◌≡◌, refl, subst, ◌∙◌}
use Prim.Native.Nat.{ℕ, ◌+◌, ◌<◌}
use native.Mathlib.Omega.{arith}
use mir.Val.{bool_byte as from_bool}
use Rattle.bits.specs.Bits.{bits_of}
use Rattle.modulation.specs.steps.Groups.{groups_at}
use Rattle.automaton.specs.steps.Table.{After}
use Rattle.automaton.proofs.Entries.{from-bool, start_small}
use Rattle.demodulator_groups.proofs.Running.{more-read, still-small}
use Rattle.demodulator_groups.proofs.steps.begin.Goals as goal

start-below : (before : Bool) {s : ℕ} → s ≡ from_bool before → s < 18
start-below before is = omega (arith, is ∙ from-bool before, start_small before)

pub two_on-y-requires : goal.two_on-y-requires
two_on-y-requires c = let args = c.args in
    (c.requires.0, (c.six.ensures.1, (c.run-x.ensures.small, still-small (bits_of args.bytes.now) args.at 9 (start-below args.before c.from.ensures) (omega arith) c.run-x.ensures)))

pub two_on-requires : goal.two_on-requires
two_on-requires c = let args = c.args in
    let b = bits_of args.bytes.now in
    let eleven = more-read b args.at 9 2 (args.at + 27) 11 (omega arith) refl c.run-x.ensures c.six.ensures.0 c.two_on-y.ensures in
    (c.requires.0, (c.six-2.ensures.1, (c.two_on-y.ensures.small, still-small b args.at 11 (start-below args.before c.from.ensures) (omega arith) eleven)))

pub returns : goal.returns
returns c = let args = c.args in
    let b = bits_of args.bytes.now in
    let eleven = more-read b args.at 9 2 (args.at + 27) 11 (omega arith) refl c.run-x.ensures c.six.ensures.0 c.two_on-y.ensures in
    subst (λ (s : ℕ). After (groups_at b args.at 13) s c.two_on.result) (c.from.ensures ∙ from-bool args.before)
    (more-read b args.at 11 2 (args.at + 33) 13 (omega arith) refl eleven c.six-2.ensures.0 c.two_on.ensures)
