-- `words_of` meets its contract: filled from the front (Words).
use native.Mathlib.Omega.{arith}
use Rattle.notation.proofs.Words.{words-read}
use Rattle.notation.proofs.words_of.Goals as goal

pub returns : goal.returns
returns c = search (words-read, arith)
