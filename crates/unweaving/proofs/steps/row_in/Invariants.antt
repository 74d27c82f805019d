-- `row_in` meets its contract: five bytes a turn (frame_bits, Unweaving). Assumes nothing.
use Prim.Native.Nat.{◌*◌}
use lib.ListN.{get_or}
use Rattle.laws.proofs.Fill.{Upto}
use Rattle.modulation.specs.steps.Words.{bits_in}
use Rattle.frame_bits.specs.FrameBits.{row_from}
use Rattle.unweaving.proofs.steps.row_in.Given as goal

abbrev pub invariant-loop-m : goal.invariant-loop-m
invariant-loop-m l = Upto 0 (λ k. get_or (row_from (bits_in l.words)) k 0) 155 (5 * l.m) l.row
