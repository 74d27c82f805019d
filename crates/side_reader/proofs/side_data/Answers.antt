-- `side_data` meets its contract: the loop fills the slice, and one of another length is left (Judging).
use native.Mathlib.Omega.{arith}
use Rattle.laws.proofs.Fill.{upto-none, upto-more}
use Rattle.side_reader.proofs.Judging.{side_left, side-filled}
use Rattle.side_reader.proofs.side_data.Goals as goal

pub returns-then-side-ne-SIDE : goal.returns-then-side-ne-SIDE
returns-then-side-ne-SIDE c = search (side_left)

pub loop-k-init : goal.loop-k-init
loop-k-init c = search (upto-none)

pub loop-k-preserved : goal.loop-k-preserved
loop-k-preserved c = upto-more (omega (arith, c.loop-k.invariant.size)) c.side_byte.ensures c.loop-k.invariant

pub returns : goal.returns
returns c = side-filled c.args.block c.args.side.now (omega arith) (omega (arith, c.loop-k.invariant.size)) c.loop-k.invariant
