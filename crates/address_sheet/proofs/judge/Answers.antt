-- `judge` meets its contract: the count, then the entries (Statements).
use borrow.Author.Rules.{rules}
use Rattle.address_sheet.proofs.Statements.{may-judge, judged-whole, judged-count}
use Rattle.address_sheet.proofs.judge.Goals as goal

pub judge_entries-requires : goal.judge_entries-requires
judge_entries-requires c = search (may-judge, rules)

pub returns-then-is_done : goal.returns-then-is_done
returns-then-is_done c =
    let judged = judged-whole _ _ c.judge_count-counted.ensures c.is_done.ensures c.if-is_done.true c.judge_entries.ensures in
    record { value = judged.0; variant = judged.1 }

pub returns : goal.returns
returns c =
    let judged = judged-count _ _ c.judge_count-counted.ensures c.is_done.ensures c.if-is_done.false in
    record { value = judged.0; variant = judged.1 }
