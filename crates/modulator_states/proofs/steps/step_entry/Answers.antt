-- `step_entry` meets its contract (modulator, Entries). Assumes nothing.
use native.Mathlib.Omega.{arith}
use Rattle.modulator.proofs.Entries.{more-small, step-coded}
use Rattle.modulator_states.proofs.steps.step_entry.Goals as goal

pub overflow_mul-pairs : goal.overflow_mul-pairs
overflow_mul-pairs c = omega (arith, c.waiting.ensures.fits)

pub overflow_add-pairs : goal.overflow_add-pairs
overflow_add-pairs c = omega (arith, c.waiting.ensures.fits)

pub modulate-all-requires : goal.modulate-all-requires
modulate-all-requires c = let small =
    more-small c.args.s c.waits.result c.waiting.result c.waits.ensures.0 c.waiting.ensures c.args.d c.requires.0 c.requires.1 in
    (omega (arith, c.waits.ensures.1), small)

pub returns : goal.returns
returns c = step-coded c.args.s c.waits.result c.waiting.result c.waits.ensures.0 c.waiting.ensures c.args.d c.requires.0 c.requires.1
    c.modulate-all.ensures c.next_state-next.ensures.0 c.waits-k.ensures.0 c.cleared.ensures.0
