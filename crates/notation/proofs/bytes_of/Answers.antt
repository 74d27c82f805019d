-- `bytes_of` meets its contract: filled from the front (Words).
use native.Mathlib.Omega.{arith}
use Rattle.laws.proofs.Fill.{upto-more}
use Rattle.notation.proofs.Words.{byte-written, bytes-read}
use Rattle.notation.proofs.bytes_of.Goals as goal

pub loop-k-preserved : goal.loop-k-preserved
loop-k-preserved c = (omega arith, upto-more (omega arith) (byte-written _ _ c.word_bytes.ensures) c.loop-k.invariant.1)

pub returns : goal.returns
returns c = search (bytes-read, arith)
