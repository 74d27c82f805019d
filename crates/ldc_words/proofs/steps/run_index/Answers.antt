-- `run_index` meets its contract, by what a run says of its bytes.
use borrow.Author.Rules.{rules}
use Rattle.ldc_words.proofs.steps.run_index.Goals as goal

pub returns-then-i-run : goal.returns-then-i-run
returns-then-i-run c = λ e n run. run.early _ (search rules) (search rules)

pub returns : goal.returns
returns c = λ e n run. run.late _ (search rules) (search rules)
