-- `side_data` meets its contract: the loop fills the slice, and one of another length is left (Judging).
use Rattle.laws.proofs.Fill.{Upto}
use Rattle.bis.specs.Reading.{side_byte_in}
use Rattle.side_reader.proofs.side_data.Given as goal

abbrev pub invariant-loop-k : goal.invariant-loop-k
invariant-loop-k l = Upto 0 (side_byte_in l.block) 592 l.k l.side
