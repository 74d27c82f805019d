-- `read_frames` meets its contract: each turn reads two frames behind those before them (Reading). Assumes nothing.
use native.Mathlib.Omega.{arith}
use Rattle.recording_frames.proofs.Reading.{below_none, below_more, below-stop, below-stop-next, below_all}
use Rattle.recording_frames.proofs.steps.read_frames.Goals as goal

pub loop-pair-init : goal.loop-pair-init
loop-pair-init c = (c.fill_table.ensures, search (below_none))

pub returns-in_default : goal.returns-in_default
returns-in_default c = below-stop c.loop-pair.invariant.1 (omega arith) c.read_two-two.ensures c.in_default.is

pub returns-in_default-second : goal.returns-in_default-second
returns-in_default-second c = below-stop-next c.loop-pair.invariant.1 (omega arith) c.read_two-two.ensures c.in-Some.is c.in_default-second.is

pub loop-pair-preserved : goal.loop-pair-preserved
loop-pair-preserved c = (c.loop-pair.invariant.0, below_more c.loop-pair.invariant.1 (omega arith) c.read_two-two.ensures c.in-Some.is c.in-Some-second.is)

pub returns : goal.returns
returns c = below_all (omega arith) c.loop-pair.invariant.1
