-- `stop_entry` meets its contract (modulator, Entries). Assumes nothing.
use native.Mathlib.Omega.{arith}
use Rattle.modulator.proofs.Entries.{wait-small, stop-one, stop-zero}
use Rattle.modulator_states.proofs.steps.stop_entry.Goals as goal

pub modulate-all-requires : goal.modulate-all-requires
modulate-all-requires c = (omega (arith, c.waits.ensures.1), wait-small c.args.s c.waits.result c.waiting.result c.waits.ensures.0 c.waiting.ensures)

pub returns-then-all : goal.returns-then-all
returns-then-all c = stop-one c.args.s c.waits.result c.waiting.result c.waits.ensures.0 c.waiting.ensures c.modulate-all.ensures c.if-all.true

pub returns : goal.returns
returns c = stop-zero c.args.s c.waits.result c.waiting.result c.waits.ensures.0 c.waiting.ensures c.modulate-all.ensures c.if-all.false
