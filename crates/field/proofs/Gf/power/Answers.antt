-- `Gf::power` meets its contract: of an element other than zero, the power of α at a multiple of the logarithm. Assumes nothing.
use native.Mathlib.Omega.{arith}
use borrow.Author.Rules.{rules}
use Rattle.galois.specs.Field.{power}
use Rattle.galois.proofs.Power.{power_zero}
use Rattle.galois.proofs.Lookup.{power-table, exponent-fits}
use Rattle.field.proofs.Gf.power.Goals as goal

pub returns-then-k-eq0 : goal.returns-then-k-eq0
unfolding power
returns-then-k-eq0 c = rw c.if-k-eq0.true

pub returns-then-self-eq0 : goal.returns-then-self-eq0
returns-then-self-eq0 c = rw (c.if-self-eq0.true, power_zero _ c.if-k-eq0.false)

pub overflow_mul-e : goal.overflow_mul-e
overflow_mul-e c = omega (arith, exponent-fits c.log_in.ensures.1 c.args.k)

pub returns : goal.returns
returns c = power-table (record { powers = c.powers-powers.ensures; logs = c.logs-logs.ensures }) (search rules) (search rules) c.log_in.ensures.0 _
