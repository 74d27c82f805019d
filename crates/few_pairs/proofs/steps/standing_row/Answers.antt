-- `standing_row` meets its contract: a search through the rows (conversion, Search). Assumes nothing.
use mathlib.Core.Bool.{true, false}
use mathlib.Core.Path.{◌≡◌}
use Prim.Native.Nat.{ℕ}
use Rattle.std.proofs.Common.{rules}
use Rattle.std.proofs.lemmas.Iterator.{first_from_Range}
use Rattle.modulation.specs.Modulation.{two_number, row_at, starts}
use Rattle.conversion.specs.steps.Few.{few_pairs}
use Rattle.conversion.proofs.Search.{first-found}
use Rattle.few_pairs.proofs.steps.standing_row.Goals as goal

pub returns : goal.returns
returns c = let p = λ (k : ℕ). starts two_number (row_at k).pairs (few_pairs c.args.count c.args.pairs) in
    first-found 16 p c.find.result
    (first_from_Range _ _ _ _ (λ k. p k ≡ true) (λ k. p k ≡ false) c.find.ensures.ran (λ k q called. search rules) (λ k q called. (search rules, search rules)))
