-- `psns_of` meets its contract: a PSN for each number (laws, FromFn).
use Rattle.std.proofs.Common.{rules}
use Rattle.laws.proofs.FromFn.{made-tabulate}
use Rattle.export_sheet.specs.Exported.{given_psn, given_psns}
use Rattle.export_sheet.proofs.psns_of.Goals as goal

pub returns : goal.returns
unfolding given_psns
returns c = made-tabulate _ (record { 0 = 0 }) (λ i. record { 0 = given_psn c.args.given.now i }) 64 _ (λ i psn q h called. search rules) c.from_fn.ensures.items
