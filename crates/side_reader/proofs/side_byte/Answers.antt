-- `side_byte` meets its contract: a flag byte, and a byte of the control data (Judging).
use Rattle.side_reader.proofs.Judging.{flag-byte, control-byte}
use Rattle.side_reader.proofs.side_byte.Goals as goal

pub returns-then-k-lt16 : goal.returns-then-k-lt16
returns-then-k-lt16 c = search (flag-byte)

pub returns : goal.returns
returns c = search (control-byte)
