-- `row_at` meets its contract: the loop copies the row. Assumes nothing.
use Prim.Native.Nat.{◌+◌}
use lib.ListN.{get_or}
use Rattle.register.proofs.Eight.{Filling}
use Rattle.remainder_rows.proofs.steps.row_at.Given as goal

abbrev pub invariant-loop-j : goal.invariant-loop-j
invariant-loop-j l = Filling (λ k. get_or l.table (l.at + k) 0) l.j l.row
