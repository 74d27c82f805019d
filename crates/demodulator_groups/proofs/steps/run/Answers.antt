-- `run` meets its contract: three groups a turn (Running). Assumes nothing.
use mathlib.Core.Path.{◌≡◌, subst}
use Prim.Native.Nat.{ℕ, ◌+◌, ◌*◌}
use native.Mathlib.Omega.{arith}
use Rattle.bits.specs.Bits.{bits_of}
use Rattle.modulation.specs.steps.Groups.{groups_at}
use Rattle.automaton.specs.steps.Table.{After}
use Rattle.demodulator_groups.proofs.Running.{none_read, more-read, still-small}
use Rattle.demodulator_groups.proofs.steps.run.Goals as goal

pub loop-k-init : goal.loop-k-init
loop-k-init c = none_read (bits_of c.args.bytes.now) c.args.at c.args.s c.requires.1.0

pub three_on-x-requires : goal.three_on-x-requires
three_on-x-requires c = let args = c.args in
    let read = c.loop-k.invariant in
    (c.requires.0, (c.nine.ensures.1, (read.small, still-small (bits_of args.bytes.now) args.at (3 * c.loop-k.k) c.requires.1.0 (omega (arith, c.requires.1.1.0)) read)))

pub loop-k-preserved : goal.loop-k-preserved
loop-k-preserved c = let args = c.args in
    let at = args.at in
    let k = c.loop-k.k in
    more-read (bits_of args.bytes.now) at (3 * k) 3 (at + 9 * k) (3 * (k + 1)) (omega arith) (omega arith) c.loop-k.invariant c.nine.ensures.0 c.three_on-x.ensures

pub returns : goal.returns
returns c = let args = c.args in
    let all : c.loop-k.k ≡ args.turns = omega arith in
    subst (λ (n : ℕ). After (groups_at (bits_of args.bytes.now) args.at (3 * n)) args.s c.loop-k.x) all c.loop-k.invariant
