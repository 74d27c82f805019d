-- `starts_with_010` meets its contract: the row that stands there tells it (conversion, Next). Assumes nothing.
use mathlib.Core.Bool.{false}
use mathlib.Core.Path.{refl}
use native.Mathlib.Omega.{arith}
use Rattle.conversion.specs.steps.Few.{few_pairs}
use Rattle.conversion.proofs.Next.{by_row, by-none}
use Rattle.few_pairs.proofs.steps.starts_with_010.Goals as goal

pub returns-in-Some : goal.returns-in-Some
returns-in-Some c = let args = c.args in by_row false (few_pairs args.count args.pairs) c.in-Some.k c.in-Some.ensures.1 c.leads_010.ensures

pub returns-in-None : goal.returns-in-None
returns-in-None c = let args = c.args in by-none false (few_pairs args.count args.pairs) _ refl (omega (arith, c.in-None.ensures))
