-- `transitions` meets its contract: the code's numbers are the definition's. Assumes nothing.
use mathlib.Core.Path.{refl}
use Rattle.automaton.specs.Automaton.{transitions}
use Rattle.automaton_tables.proofs.steps.transitions.Goals as goal

pub returns : goal.returns
unfolding transitions
returns c = refl
