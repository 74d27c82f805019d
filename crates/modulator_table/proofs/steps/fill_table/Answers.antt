-- `fill_table` meets its contract. Assumes nothing.
use borrow.Author.Rules.{rules}
use Rattle.laws.proofs.Fill.{upto-none, upto-more, upto_all}
use Rattle.modulator.specs.steps.Table.{lent_table}
use Rattle.modulator_table.proofs.steps.fill_table.Goals as goal

pub loop-k-init : goal.loop-k-init
loop-k-init c = ((c.make_nibbles-nibbles.ensures, c.make_stops-stops.ensures), upto-none c.requires)

pub loop-k-preserved : goal.loop-k-preserved
loop-k-preserved c = (c.loop-k.invariant.0, upto-more (search rules) c.entry.ensures c.loop-k.invariant.1)

pub returns : goal.returns
unfolding lent_table
returns c = upto_all c.loop-k-test.false c.loop-k.invariant.1
