-- `put_rows` meets its contract: the rows that are left are put behind what is done (Table).
use Rattle.tallying.proofs.Table.{Rows}
use Rattle.tallying.proofs.put_rows.Given as goal

abbrev pub invariant-loop-k : goal.invariant-loop-k
invariant-loop-k l = Rows l.initial.done l.counts l.done l.k
