-- `first_wrong_column_by` meets its contract: the first column without its roots (Judging).
use Rattle.std.proofs.Common.{rules, tests}
use Rattle.std.proofs.lemmas.Iterator.{YieldsList-from_slice}
use Rattle.std.proofs.lemmas.Iterator.Search.{position_from_yields_List}
use Rattle.bis_columns.proofs.Judging.{is_wrong, columns-judged}
use Rattle.bis_columns.proofs.steps.first_wrong_column_by.Goals as goal

pub returns : goal.returns
returns c =
    columns-judged c.args.block (search rules)
    (position_from_yields_List is_wrong _ _ c.position.result c.position.ensures.ran (YieldsList-from_slice c.args.block cc) (λ x b q k. search (rules, tests)))
