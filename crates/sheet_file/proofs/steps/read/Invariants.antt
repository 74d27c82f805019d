-- `read` meets its contract: a byte a turn (Files).
use Rattle.sheet_file.proofs.Files.{PartRead}
use Rattle.sheet_file.proofs.steps.read.Given as goal

abbrev pub invariant-loop-byte : goal.invariant-loop-byte
invariant-loop-byte l = PartRead l.initial.done l.bytes l.done l.byte-index
