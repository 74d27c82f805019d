-- At most one list of r bytes completes a message: two would differ in at most r places, and their sum has r roots. Assumes nothing.
use mathlib.Core.Path.{◌≡◌, sym, ◌∙◌}
use mathlib.Core.List.{List}
use Prim.Native.Nat.{ℕ, ◌<◌, ◌≤◌}
use native.Mathlib.Omega.{arith}
use lib.ListN.{length}
use Rattle.laws.proofs.Differing.{differing-most}
use Rattle.galois.specs.Field.{α, power}
use Rattle.column.specs.Column.{value_from, value, Completes}
use Rattle.column.proofs.Value.{value-append, sum-root}
use Rattle.column.proofs.Sparse.{few-same}

pub completes-once : (r : ℕ) → r ≤ 255 → (message p q : List ℕ) → Completes r message p → Completes r message q → q ≡ p
completes-once r hr message p q cp cq =
    few-same r q p e (omega (arith, cq.size)) cq.bytes cp.bytes (λ i h. sum-root (value message (power α i)) q p (power α i) e (behind q cq i h) (behind p cp i h))
    (omega (arith, differing-most q p, cq.size))
  where
    e : length q ≡ length p
    e = cq.size ∙ sym cp.size

    behind : (l : List ℕ) → Completes r message l → (i : ℕ) → i < r → value_from (value message (power α i)) l (power α i) ≡ 0
    behind l c i h = unfold value in sym (value-append 0 message l (power α i)) ∙ c.roots i h
