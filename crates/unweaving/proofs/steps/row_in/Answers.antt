-- `row_in` meets its contract: five bytes a turn (frame_bits, Unweaving). Assumes nothing.
use native.Mathlib.Omega.{arith}
use borrow.Author.Rules.{rules}
use Rattle.laws.proofs.Fill.{upto-none}
use Rattle.modulation.specs.steps.Words.{bits_in}
use Rattle.frame_bits.proofs.Unweaving.{row-five, row-all, words-bits-bits}
use Rattle.unweaving.proofs.steps.row_in.Goals as goal

pub loop-m-init : goal.loop-m-init
loop-m-init c = upto-none c.requires.1

pub loop-m-preserved : goal.loop-m-preserved
loop-m-preserved c = row-five (search rules) c.five_in-five.ensures c.loop-m.invariant

pub returns : goal.returns
returns c = row-all (bits_in c.args.words.now) (words-bits-bits _) (omega arith) c.loop-m.invariant
