-- `Gf::product` meets its contract: it is the product by the field's own tables. Assumes nothing.
use Rattle.galois.proofs.Lookup.{product-table}
use borrow.Author.Rules.{rules}
use Rattle.field.proofs.Gf.product.Goals as goal

pub returns : goal.returns
returns c = product-table (record { powers = c.powers-powers.ensures; logs = c.logs-logs.ensures }) (search rules) (search rules) c.product_by.ensures
