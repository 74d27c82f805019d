-- `mark` meets its contract: slices of zeros, the marker's verdict, and its line (Marking).
use borrow.Author.Rules.{rules}
use Rattle.marking.proofs.Marking.{mark-is}
use Rattle.marking.proofs.mark.Goals as goal

pub returns-clause-value : goal.returns-clause-value
returns-clause-value c =
    let marked = c.mark-verdict.ensures in
    (mark-is _ _ _ _ _ _ _ _ _ _ _ (marked.work_after, marked.variant) (search rules) (search rules) (search rules) (search rules) (search rules)).0

pub returns-clause-variant : goal.returns-clause-variant
returns-clause-variant c =
    let marked = c.mark-verdict.ensures in
    (mark-is _ _ _ _ _ _ _ _ _ _ _ (marked.work_after, marked.variant) (search rules) (search rules) (search rules) (search rules) (search rules)).1
