-- `most_bits` meets its contract: the frame's words, and their most pairs twice (Counting). Assumes nothing.
use native.Mathlib.Omega.{arith}
use Rattle.look_ahead.proofs.Counting.{bits-double}
use Rattle.look_ahead.proofs.most_bits.Goals as goal

pub overflow_cast-result : goal.overflow_cast-result
overflow_cast-result c = omega (arith, c.most_pairs.ensures.0)

pub overflow_mul-result : goal.overflow_mul-result
overflow_mul-result c = omega (arith, c.most_pairs.ensures.0)

pub returns : goal.returns
returns c = bits-double _ _ c.most_pairs.ensures.1 c.frame_words.ensures.1
