-- `fits_at` meets its contract: the row's pairs stand first and its condition holds (conversion, Fitting). Assumes nothing.
use mathlib.Core.Path.{◌∙◌}
use Rattle.conversion.proofs.Fitting.{fits_not, fits-if, fits-within}
use Rattle.few_pairs.proofs.steps.fits_at.Goals as goal

pub allowed_at-requires : goal.allowed_at-requires
allowed_at-requires c = let there = fits-within c.args.count c.args.pairs c.args.before c.args.k c.pairs_stand.ensures c.if-pairs_stand.true in
    (c.requires.0, (c.requires.1.0, (c.requires.1.1, there)))

pub returns-then-pairs_stand : goal.returns-then-pairs_stand
returns-then-pairs_stand c = let args = c.args in
    fits-if args.count args.pairs args.before args.k c.pairs_stand.ensures c.if-pairs_stand.true c.allowed_at.ensures

pub returns-else-pairs_stand : goal.returns-else-pairs_stand
returns-else-pairs_stand c = let args = c.args in
    c.if-pairs_stand.false ∙ fits_not args.count args.pairs args.before args.k c.pairs_stand.ensures c.if-pairs_stand.false
