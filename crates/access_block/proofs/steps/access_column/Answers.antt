-- `access_column` meets its contract: the bytes of its rows (laws, FromFn).
use Rattle.std.proofs.Common.{rules}
use Rattle.laws.proofs.FromFn.{made-tabulate}
use Rattle.bis.specs.AccessBlock.{access_byte}
use Rattle.bis.specs.BisBlock.{access_column}
use Rattle.access_block.proofs.steps.access_column.Goals as goal

pub returns : goal.returns
unfolding access_column
returns c = made-tabulate _ 0 (λ row. access_byte c.args.fields.now c.args.side.now row c.args.c) 30 _ (λ row y q h called. search rules) c.from_fn.ensures.items
