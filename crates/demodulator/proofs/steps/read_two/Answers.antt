-- `read_two` meets its contract: a word of each frame a turn, and the answers (Reading). Assumes nothing.
use mathlib.Core.Path.{◌≡◌}
use native.Mathlib.Omega.{arith}
use Rattle.demodulator.proofs.Reading.{no-words, reading-none, reading-more, reading-all}
use Rattle.demodulator.proofs.steps.read_two.Goals as goal

pub loop-i-init : goal.loop-i-init
loop-i-init c = search (reading-none, no-words)

pub loop-i-preserved : goal.loop-i-preserved
loop-i-preserved c = search (reading-more)

pub returns : goal.returns
returns c = let args = c.args in
    let read = c.loop-i.invariant in
    let done : c.loop-i.i ≡ 27 = omega arith in (
      reading-all args.before args.hash c.requires.1.0 read.0 done c.ended-first.ensures.last c.ended-first.ensures.fit,
      reading-all args.prior args.sign c.requires.1.1 read.1 done c.ended-second.ensures.last c.ended-second.ensures.fit,
    )
