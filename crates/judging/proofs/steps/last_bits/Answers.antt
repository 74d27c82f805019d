-- `last_bits` meets its contract: one bit, then the other (Judging).
use Rattle.judging.proofs.Judging.{last-but-one, last_one, both_zero}
use Rattle.judging.proofs.steps.last_bits.Goals as goal

pub returns-then-read_bit-ne0 : goal.returns-then-read_bit-ne0
returns-then-read_bit-ne0 c = search (last-but-one)

pub returns-then-read_bit-ne0-2 : goal.returns-then-read_bit-ne0-2
returns-then-read_bit-ne0-2 c = search (last_one)

pub returns : goal.returns
returns c = search (both_zero)
