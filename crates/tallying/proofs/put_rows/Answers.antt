-- `put_rows` meets its contract: the rows that are left are put behind what is done (Table).
use Rattle.tallying.proofs.Table.{rows_none, rows_more, rows_all}
use borrow.Author.Rules.{rules}
use Rattle.tallying.proofs.put_rows.Goals as goal

pub loop-k-init : goal.loop-k-init
loop-k-init c = rows_none _ _ (search rules)

pub loop-k-preserved : goal.loop-k-preserved
loop-k-preserved c = search (rows_more, rules)

pub returns : goal.returns
returns c = search (rows_all)
