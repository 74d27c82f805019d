-- `added` meets its contract: a byte a turn. Assumes nothing.
use mathlib.Core.Path.{◌≡◌}
use Rattle.register.specs.steps.Register.{leaves_added}
use Rattle.code_word.proofs.steps.added.Given as goal

abbrev pub invariant-loop-k : goal.invariant-loop-k
invariant-loop-k l = l.v ≡ leaves_added l.eight l.j l.byte l.k
