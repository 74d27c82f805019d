-- `modulate` meets its contract: a word a turn (conversion, Modulating). Assumes nothing.
use mathlib.Core.Bool.{Bool, ◌||◌}
use mathlib.Core.Path.{ap}
use native.Mathlib.Omega.{arith}
use Rattle.conversion.proofs.Modulating.{modulating-none, modulating-small, modulating-more, modulating-all}
use Rattle.few_pairs.proofs.steps.modulate.Goals as goal

pub loop-left-init : goal.loop-left-init
loop-left-init c = modulating-none c.requires.1

pub fitting_row-k-requires : goal.fitting_row-k-requires
fitting_row-k-requires c = ((c.loop-left-test.true, omega (arith, c.loop-left.invariant.within, c.requires.0)), c.loop-left.invariant.small)

pub followed-value-requires : goal.followed-value-requires
followed-value-requires c = (c.fitting_row-k.ensures.below, modulating-small c.loop-left.invariant c.requires.0)

pub overflow_sub-left : goal.overflow_sub-left
overflow_sub-left c = omega (arith, c.row_len-left.ensures.pairs-are, c.fitting_row-k.ensures.within)

pub last_pairs-rest-requires : goal.last_pairs-rest-requires
last_pairs-rest-requires c = omega (arith, c.loop-left.invariant.within, c.requires.0)

pub loop-left-smaller : goal.loop-left-smaller
loop-left-smaller c = omega (arith, c.row_len-left.ensures.some, c.loop-left-test.true)

pub loop-left-preserved : goal.loop-left-preserved
loop-left-preserved c = modulating-more c.loop-left.invariant c.loop-left-test.true c.fitting_row-k.ensures c.followed-value.ensures
    (ap (λ (x : Bool). c.loop-left.terminated || x) c.is_terminating-terminated.ensures) c.ends_in_one-bit.ensures c.row_len-left.ensures c.last_pairs-rest.ensures

pub returns : goal.returns
returns c = modulating-all c.loop-left.invariant c.requires.0 c.loop-left-test.false
