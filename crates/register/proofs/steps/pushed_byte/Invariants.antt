-- `pushed_byte` meets its contract: the loop adds what the byte that comes out, with the one that goes in, leaves (Eight). Assumes nothing.
use Prim.Native.Nat.{◌+◌}
use lib.ListN.{get_or}
use Rattle.galois.specs.Field.{sum}
use Rattle.register.specs.steps.Register.{leaves}
use Rattle.register.proofs.Eight.{Filling}
use Rattle.register.proofs.steps.pushed_byte.Given as goal

abbrev pub invariant-loop-j : goal.invariant-loop-j
invariant-loop-j l = Filling (λ k. sum (get_or l.was (k + 1) 0) (get_or (leaves 0 l.out) k 0)) l.j l.next
