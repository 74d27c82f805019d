-- `put_three` meets its contract (modulator, Put). Assumes nothing.
use native.Mathlib.Omega.{arith}
use lib.ListN.{length-set}
use Rattle.modulator.proofs.Put.{put_three}
use Rattle.held_bits.proofs.steps.put_three.Goals as goal

pub bounds-out-at-2 : goal.bounds-out-at-2
bounds-out-at-2 c = simp length-set (omega arith)

pub bounds-out-at-3 : goal.bounds-out-at-3
bounds-out-at-3 c = simp length-set (omega arith)

pub returns : goal.returns
returns c = put_three c.args.out.now c.args.at c.args.v c.byte.result c.byte-2.result c.byte-3.result
    c.requires c.byte.ensures c.byte-2.ensures c.byte-3.ensures
