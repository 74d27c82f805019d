-- `has_roots` meets its contract: the loop passes the roots that are there, and stops at one that is missing. Assumes nothing.
use Rattle.column.proofs.Roots.{Rooted}
use Rattle.roots.proofs.has_roots.Given as goal

abbrev pub invariant-loop-i : goal.invariant-loop-i
invariant-loop-i l = Rooted l.column l.count l.i
