-- `put_ldc` meets its contract: one eighth after the other (ldc_words, Eighth).
use native.Mathlib.Omega.{arith}
use borrow.Author.Rules.{rules}
use Rattle.cluster.specs.EccCluster.{scrambled_frames}
use Rattle.ldc_words.proofs.Eighth.{ldc-put-none, ldc-put-more, ldc-put-end}
use Rattle.cluster_writer.proofs.steps.put_ldc.Goals as goal

pub loop-e-init : goal.loop-e-init
loop-e-init c = ((search rules, search rules), ldc-put-none _ _)

pub loop-e-preserved : goal.loop-e-preserved
loop-e-preserved c = let args = c.args in (
  (search rules, search rules),
  ldc-put-more (scrambled_frames args.stream.now args.user.now) c.put_frames.new.frames c.complete_words.new.words args.work.now c.loop-e.work
      c.put_words.new.work c.loop-e.e (omega arith) c.put_frames.ensures c.complete_words.ensures c.put_words.ensures c.loop-e.invariant.1,
)

pub returns : goal.returns
returns c = search (ldc-put-end)
