-- `ends` meets its contract: the code's numbers are the definition's. Assumes nothing.
use mathlib.Core.Path.{refl}
use Rattle.automaton.specs.Automaton.{ends}
use Rattle.automaton_tables.proofs.steps.ends.Goals as goal

pub returns : goal.returns
unfolding ends
returns c = refl
