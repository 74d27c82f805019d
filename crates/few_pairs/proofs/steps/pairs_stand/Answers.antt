-- `pairs_stand` meets its contract: equal numbers are equal pairs (conversion, FewPairs). Assumes nothing.
use Rattle.conversion.proofs.FewPairs.{stands-not, stands-if}
use Rattle.few_pairs.proofs.steps.pairs_stand.Goals as goal

pub returns-then-count-r : goal.returns-then-count-r
returns-then-count-r c = stands-not c.row_at-r.ensures c.args.count c.args.pairs c.if-count-r.true

pub returns : goal.returns
returns c = stands-if c.row_at-r.ensures c.args.count c.args.pairs c.requires.1.1 c.if-count-r.false
