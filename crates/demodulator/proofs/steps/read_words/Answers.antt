-- `read_words` meets its contract: a word a turn, and the answer (Reading). Assumes nothing.
use native.Mathlib.Omega.{arith}
use Rattle.demodulator.proofs.Reading.{no-words, reading-none, reading-more, reading-all}
use Rattle.demodulator.proofs.steps.read_words.Goals as goal

pub loop-i-init : goal.loop-i-init
loop-i-init c = search (reading-none, no-words)

pub loop-i-preserved : goal.loop-i-preserved
loop-i-preserved c = search (reading-more)

pub returns : goal.returns
returns c = search (reading-all, arith)
