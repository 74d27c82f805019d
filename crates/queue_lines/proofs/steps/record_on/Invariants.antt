-- `record_on` meets its contract: a longer line, an odd one, and pair by pair (Records).
use Rattle.queue_lines.proofs.Records.{PairsRead}
use Rattle.queue_lines.proofs.steps.record_on.Given as goal

abbrev pub invariant-loop-k : goal.invariant-loop-k
invariant-loop-k l = PairsRead l.text l.size l.k l.bytes
