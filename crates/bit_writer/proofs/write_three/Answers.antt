-- `write_three` meets its contract: three bits are written one after the other (Write).
use Rattle.bit_writer.proofs.Write.{three-written}
use Rattle.bit_writer.proofs.write_three.Goals as goal

pub returns : goal.returns
returns c = search (three-written)
