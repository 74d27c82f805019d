-- `fill_twos` meets its contract: the entries are made one by one (automaton, Entries). Assumes nothing.
use native.Mathlib.Omega.{arith}
use Rattle.laws.proofs.Fill.{upto-none, upto-more}
use Rattle.automaton.proofs.Entries.{twos-all}
use Rattle.demodulator_table.proofs.steps.fill_twos.Goals as goal

pub loop-k-init : goal.loop-k-init
loop-k-init c = upto-none c.requires.1

pub loop-k-preserved : goal.loop-k-preserved
loop-k-preserved c = upto-more (omega arith) c.two_at.ensures c.loop-k.invariant

pub returns : goal.returns
returns c = twos-all (omega arith) c.loop-k.invariant
