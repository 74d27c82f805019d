-- `field_in` meets its contract: each byte is read at its place (laws, FromFn).
use mathlib.Core.List.{[]}
use Rattle.std.proofs.Common.{rules}
use lib.ListN.{get_or}
use Rattle.laws.proofs.FromFn.{made-tabulate}
use Rattle.bis.specs.AccessBlock.{row_of_af, column_of_af}
use Rattle.bis.specs.Reading.{field_in}
use Rattle.bis_fields.proofs.steps.field_in.Goals as goal

pub returns : goal.returns
unfolding field_in
returns c =
    made-tabulate _ 0 (λ x. get_or (get_or c.args.block.now (column_of_af x c.args.y) []) (row_of_af x c.args.y) 0) 9 _ (λ x byte q h called. search rules)
    c.from_fn.ensures.items
