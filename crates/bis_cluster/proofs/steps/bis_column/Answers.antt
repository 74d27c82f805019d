-- `bis_column` meets its contract: each byte is read at its index (laws, FromFn).
use Rattle.std.proofs.Common.{rules}
use lib.ListN.{get_or}
use Rattle.laws.proofs.FromFn.{made-tabulate}
use Rattle.bis.specs.BisCluster.{bis_row, bis_column}
use Rattle.cluster.specs.Multiplex.{bis_index, column_in}
use Rattle.bis_cluster.proofs.steps.bis_column.Goals as goal

pub returns : goal.returns
unfolding column_in
returns c =
    made-tabulate _ 0 (λ N. get_or c.args.work.now (bis_index (bis_row N c.args.c) (bis_column N c.args.c)) 0) 62 _ (λ N byte q h called. search rules)
    c.from_fn.ensures.items
