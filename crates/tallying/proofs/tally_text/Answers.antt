-- `tally_text` meets its contract: the table, or a refusal (Table).
use Rattle.tallying.proofs.Table.{table_is, refusal_is}
use borrow.Author.Rules.{rules}
use Rattle.tallying.proofs.tally_text.Goals as goal

pub returns-then-accepted : goal.returns-then-accepted
returns-then-accepted c = search (table_is, rules)

pub returns : goal.returns
returns c = search (refusal_is)
