-- `write` meets its contract: what the pass keeps, eight bytes or one more each turn (Pass).
use Prim.Native.Nat.{◌*◌}
use Rattle.sector_pass.specs.Pass.{PassWriting}
use Rattle.sector_pass.proofs.steps.write.Given as goal

abbrev pub invariant-loop-k : goal.invariant-loop-k
invariant-loop-k l = PassWriting l.user l.stream l.initial.frame (8 * l.k) l.frame l.register

abbrev pub invariant-loop-k-2 : goal.invariant-loop-k-2
invariant-loop-k-2 l = PassWriting l.user l.stream l.initial.frame l.k l.frame l.register
