-- `Gf::product_by` meets its contract, case by case. Assumes nothing.
use borrow.Author.Tests.{eq-eqb, ne_eqb}
use Rattle.galois.specs.Tables.{product_by}
use Rattle.galois.proofs.Lookup.{product-low, product_high}
use Rattle.field.proofs.Gf.product_by.Goals as goal

pub returns-then-self-eq0 : goal.returns-then-self-eq0
unfolding product_by
returns-then-self-eq0 c = rw (eq-eqb _ 0 c.if-self-eq0.true)

pub returns-then-other-eq0 : goal.returns-then-other-eq0
unfolding product_by
returns-then-other-eq0 c = rw (ne_eqb _ 0 c.if-self-eq0.false, eq-eqb _ 0 c.if-other-eq0.true)

pub returns-then-k-lt255 : goal.returns-then-k-lt255
returns-then-k-lt255 c = search (product-low)

pub returns-else-k-lt255 : goal.returns-else-k-lt255
returns-else-k-lt255 c = search (product_high)
