-- `scrambling` meets its contract: the bytes passed are those of the stream, and s is the register of the next (Stream).
use Rattle.scrambling.proofs.Stream.{streamed-none, streamed-more, streamed-all}
use Rattle.scrambling.proofs.scrambling.Goals as goal

pub loop-byte-init : goal.loop-byte-init
loop-byte-init c = search (streamed-none)

pub loop-byte-preserved : goal.loop-byte-preserved
loop-byte-preserved c = search (streamed-more)

pub returns : goal.returns
returns c = search (streamed-all)
