-- `put_frames` meets its contract: one data frame after the other (Encoding).
use mathlib.Core.Path.{refl}
use Prim.Native.Nat.{◌-◌, ◌+◌, ◌*◌}
use native.Mathlib.Omega.{arith}
use Rattle.laws.proofs.Fill.{upto-none, upto_all}
use Rattle.ldc_words.specs.steps.Eighth.{frames_of}
use Rattle.cluster_writer.proofs.Encoding.{frame-more}
use Rattle.cluster_writer.proofs.steps.put_frames.Goals as goal

pub loop-f-init : goal.loop-f-init
loop-f-init c = upto-none (omega arith)

pub loop-f-preserved : goal.loop-f-preserved
loop-f-preserved c = let args = c.args in
    let f = c.loop-f.f in
    frame-more args.user.now args.stream.now c.loop-f.frames c.data_frame.new.frame c.data_frame.result args.e f (8192 * args.e + 2048 * f) (8192 * args.e + 2048 * f + 2048 - (8192 * args.e + 2048 * f)) (2052 * f + 2052 - 2052 * f) (2052 * (f + 1))
    (omega arith) (omega arith) (omega arith) refl (omega arith) (omega arith) refl c.data_frame.ensures c.loop-f.invariant

pub returns : goal.returns
unfolding frames_of
returns c = upto_all (omega arith) c.loop-f.invariant
