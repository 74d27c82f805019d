-- `take_bytes` meets its contract: a turn takes the byte of an even code word and that of the odd one behind it (Eighth).
use native.Mathlib.Omega.{arith}
use lib.ListN.{length-set}
use Rattle.laws.proofs.Scatter.{scattered-none, scattered-end}
use Rattle.ldc_words.proofs.Eighth.{run_inside, taken-turn}
use Rattle.ldc_words.proofs.steps.take_bytes.Goals as goal

pub loop-i-init : goal.loop-i-init
loop-i-init c = scattered-none

pub bounds-work-at : goal.bounds-work-at
bounds-work-at c = let args = c.args in
    omega (arith, run_inside args.e args.n c.loop-i.i _ (omega arith) (omega arith) (omega arith) (c.run_index-at.ensures args.e args.n c.run_of-run.ensures))

pub overflow_add-words-in-loop-i : goal.overflow_add-words-in-loop-i
overflow_add-words-in-loop-i c = let args = c.args in
    omega (arith, run_inside args.e args.n c.loop-i.i _ (omega arith) (omega arith) (omega arith) (c.run_index-at.ensures args.e args.n c.run_of-run.ensures))

pub bounds-work-at-in-loop-i : goal.bounds-work-at-in-loop-i
bounds-work-at-in-loop-i c = let args = c.args in
    omega (arith, run_inside args.e args.n c.loop-i.i _ (omega arith) (omega arith) (omega arith) (c.run_index-at.ensures args.e args.n c.run_of-run.ensures))

pub bounds-words-i-in-loop-i : goal.bounds-words-i-in-loop-i
bounds-words-i-in-loop-i c = simp length-set (omega arith)

pub loop-i-preserved : goal.loop-i-preserved
loop-i-preserved c = let args = c.args in
    taken-turn args.work.now args.words.now c.loop-i.words args.e args.n c.loop-i.i c.run_index-at.result (omega arith) (omega arith) (omega arith)
    (c.run_index-at.ensures args.e args.n c.run_of-run.ensures) c.loop-i.invariant

pub returns : goal.returns
returns c = record { taken = scattered-end (omega arith) c.loop-i.invariant }
