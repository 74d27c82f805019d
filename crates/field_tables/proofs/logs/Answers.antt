-- `logs` meets its contract: the code's table is the definition's. Assumes nothing.
use Rattle.galois.proofs.Logarithm.{log_list, logs-table}
use Rattle.field_tables.proofs.logs.Goals as goal

pub returns : goal.returns
unfolding log_list
returns c = logs-table
