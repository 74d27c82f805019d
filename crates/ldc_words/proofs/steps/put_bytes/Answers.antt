-- `put_bytes` meets its contract: a turn puts the byte of an even code word and that of the odd one behind it (Eighth).
use native.Mathlib.Omega.{arith}
use lib.ListN.{length-set}
use Rattle.laws.proofs.Scatter.{scattered-none, scattered-end}
use Rattle.ldc_words.proofs.Eighth.{run_inside, put-turn}
use Rattle.ldc_words.proofs.steps.put_bytes.Goals as goal

pub loop-i-init : goal.loop-i-init
loop-i-init c = scattered-none

pub bounds-work-at : goal.bounds-work-at
bounds-work-at c = let args = c.args in
    omega (arith, c.loop-i.invariant.size, run_inside args.e args.n c.loop-i.i _ (omega arith) (omega arith) (omega arith) (c.run_index-at.ensures args.e args.n c.run_of-run.ensures))

pub overflow_add-work-in-loop-i-3 : goal.overflow_add-work-in-loop-i-3
overflow_add-work-in-loop-i-3 c = let args = c.args in
    omega (arith, run_inside args.e args.n c.loop-i.i _ (omega arith) (omega arith) (omega arith) (c.run_index-at.ensures args.e args.n c.run_of-run.ensures))

pub bounds-work-at-in-loop-i : goal.bounds-work-at-in-loop-i
bounds-work-at-in-loop-i c = let args = c.args in
    simp length-set (omega (arith, c.loop-i.invariant.size, run_inside args.e args.n c.loop-i.i _ (omega arith) (omega arith) (omega arith) (c.run_index-at.ensures args.e args.n c.run_of-run.ensures)))

pub loop-i-preserved : goal.loop-i-preserved
loop-i-preserved c = let args = c.args in
    put-turn args.words.now args.work.now c.loop-i.work args.e args.n c.loop-i.i c.run_index-at.result (omega arith) (omega arith) (omega arith) (omega arith)
    (c.run_index-at.ensures args.e args.n c.run_of-run.ensures) c.loop-i.invariant

pub returns : goal.returns
returns c = record { put = scattered-end (omega arith) c.loop-i.invariant }
