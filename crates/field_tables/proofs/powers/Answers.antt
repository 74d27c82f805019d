-- `powers` meets its contract: the code's table is the definition's. Assumes nothing.
use Rattle.galois.proofs.Logarithm.{power_list, powers-table}
use Rattle.field_tables.proofs.powers.Goals as goal

pub returns : goal.returns
unfolding power_list
returns c = powers-table
