-- `put_frames` meets its contract: each turn writes a frame behind those before it (Writing).
use borrow.Author.Rules.{rules}
use native.Mathlib.Omega.{arith}
use Rattle.recording_writer.proofs.Writing.{frames-none, frames-more, frames-end, frames-size}
use Rattle.recording_writer.proofs.steps.put_frames.Goals as goal

pub loop-n-init : goal.loop-n-init
loop-n-init c = (c.fill_table.ensures, frames-none _ _ _ _ _)

pub loop-n-preserved : goal.loop-n-preserved
loop-n-preserved c = (search rules, search (frames-more))

pub shape_of-image : goal.shape_of-image
shape_of-image c = frames-size c.loop-n.invariant.1

pub returns : goal.returns
returns c = let turn = c.loop-n in
    frames-end _ _ _ _ _ _ turn.n _ (omega arith) (omega (arith, c.loop-n-test.false)) turn.invariant.1
