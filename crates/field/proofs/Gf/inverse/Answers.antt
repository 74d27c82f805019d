-- `Gf::inverse` meets its contract: of an element other than zero, the power of α at 255 less the logarithm. Assumes nothing.
use borrow.Author.Rules.{rules}
use Rattle.galois.proofs.Inverse.{inverse-zero}
use Rattle.galois.proofs.Lookup.{inverse-table}
use Rattle.field.proofs.Gf.inverse.Goals as goal

pub returns-then-self-eq0 : goal.returns-then-self-eq0
returns-then-self-eq0 c = rw (c.if-self-eq0.true, inverse-zero)

pub returns : goal.returns
returns c = inverse-table (record { powers = c.powers-powers.ensures; logs = c.logs-logs.ensures }) (search rules) (search rules) c.log_in-e.ensures.0
