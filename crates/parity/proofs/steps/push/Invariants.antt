-- `push` meets its contract: the loop moves the register on, place by place, and the last place follows. Assumes nothing.
use Rattle.column.proofs.Register.{Moved}
use Rattle.parity.proofs.steps.push.Given as goal

abbrev pub invariant-loop-j : goal.invariant-loop-j
invariant-loop-j l = Moved l.powers l.logs l.generator l.initial.register l.byte l.f.0 l.j l.register
