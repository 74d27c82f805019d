-- `told` meets its contract: the code's table is the definition's (Tables). Assumes nothing.
use Rattle.laws.specs.Tabulate.{tabulate}
use Rattle.word_walk.proofs.Tables.{told_by, told_table, told_is}
use Rattle.word_walk.proofs.steps.told.Goals as goal

pub returns : goal.returns
unfolding told_table told_by tabulate
returns c = told_is c.args.waits c.args.pair c.requires.0 c.requires.1
