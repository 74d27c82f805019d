-- `pushed_eight` meets its contract: the loop adds what the eight bytes leave (register, Eight). Assumes nothing.
use Prim.Native.Nat.{◌+◌}
use lib.ListN.{get_or}
use Rattle.register.specs.steps.Register.{leaves_added}
use Rattle.register.proofs.Eight.{Filling}
use Rattle.code_word.proofs.steps.pushed_eight.Given as goal

abbrev pub invariant-loop-j : goal.invariant-loop-j
invariant-loop-j l = Filling (λ k. leaves_added l.eight k (get_or l.was (k + 8) 0) 8) l.j l.next
