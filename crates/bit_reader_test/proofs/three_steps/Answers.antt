-- What `three_steps` returns: each step's number, and the position behind the third.
use Rattle.std.proofs.Common.{rules}
use Rattle.bit_reader.specs.Reader.{after}
use Rattle.bit_reader_test.proofs.three_steps.Goals as goal

pub returns : goal.returns
unfolding after
returns c = search rules
