-- `Psn::aun` meets its contract, from what `judge` and `if_done` ensure, with the unit's test.
use Rattle.address.proofs.Converting.{aun-made, no-such-unit}
use Rattle.address.proofs.Psn.aun.Goals as goal

pub returns-then-unit-gt15 : goal.returns-then-unit-gt15
returns-then-unit-gt15 c = search (no-such-unit)

pub returns : goal.returns
returns c = search (aun-made)
