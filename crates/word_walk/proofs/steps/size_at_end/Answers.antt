-- `size_at_end` meets its contract: the code's table is the definition's (Tables). Assumes nothing.
use Rattle.laws.specs.Tabulate.{tabulate}
use Rattle.word_walk.proofs.Tables.{size_at_end_of, end_table, at-end-is}
use Rattle.word_walk.proofs.steps.size_at_end.Goals as goal

pub returns : goal.returns
unfolding end_table size_at_end_of tabulate
returns c = at-end-is c.args.waits c.requires
