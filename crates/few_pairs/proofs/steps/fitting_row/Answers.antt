-- `fitting_row` meets its contract: a search through the rows (conversion, Search), of which some row fits (conversion, Modulating). Assumes nothing.
use mathlib.Core.Bool.{true, false}
use mathlib.Core.List.{tail}
use mathlib.Core.Path.{◌≡◌, refl, subst}
use Prim.Native.Nat.{ℕ}
use Rattle.std.proofs.Common.{rules}
use Rattle.std.specs.Prelude.{Option, Some, None, IsSome, IsSomeAnd}
use Rattle.std.proofs.lemmas.Iterator.{first_from_Range}
use Rattle.modulation.specs.Modulation.{row_at, fits, modulate_from}
use Rattle.conversion.specs.steps.Few.{few_pairs, Fitting}
use Rattle.conversion.proofs.Search.{first-found}
use Rattle.conversion.proofs.Modulating.{fitting}
use Rattle.few_pairs.proofs.steps.fitting_row.Goals as goal

found : (c : goal.After-find) → IsSomeAnd c.find.result (Fitting c.args.before c.args.count c.args.pairs)
found c =
    let ds = few_pairs c.args.count c.args.pairs in
    let p = λ (k : ℕ). fits (row_at k) c.args.before ds (modulate_from (tail ds)) in
    fitting c.args.before c.args.count c.args.pairs c.find.result c.requires.0.0
    (first-found 16 p c.find.result
    (first_from_Range _ _ _ _ (λ k. p k ≡ true) (λ k. p k ≡ false) c.find.ensures.ran (λ k q called. search rules) (λ k q called. (search rules, search rules))))

some_of : (P : ℕ → Type 0) (r : Option ℕ) → IsSomeAnd r P → IsSome r
some_of P None h = absurd h
some_of P (Some k) h = refl

pub unwrap-requires : goal.unwrap-requires
unwrap-requires c = some_of (Fitting c.args.before c.args.count c.args.pairs) c.find.result (found c)

pub returns : goal.returns
returns c = subst (λ (r : Option ℕ). IsSomeAnd r (Fitting c.args.before c.args.count c.args.pairs)) c.unwrap.ensures (found c.before)
