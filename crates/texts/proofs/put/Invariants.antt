-- `put` meets its contract: what is left of the bytes is put behind what is done (Texts).
use Rattle.texts.proofs.Texts.{Behind}
use Rattle.texts.proofs.put.Given as goal

abbrev pub invariant-loop-byte : goal.invariant-loop-byte
invariant-loop-byte l = Behind l.initial.done l.more l.done l.byte-index
