-- Information and parity behind one another, as the code copies them. Assumes nothing.
use mathlib.Core.Path.{◌≡◌, ap, ap₂, ◌∙◌}
use mathlib.Core.List.{List, ◌++◌, append-nil}
use Prim.Native.Nat.{ℕ}
use native.Mathlib.Omega.{arith}
use lib.ListN.{length, take, drop, drop_of_length-le}
use lib.Seq.{take_at, drop_at}

-- a' and b' are what is copied, rest is what stood behind a'
pub joined-is : {a a' b b' : List ℕ} (rest : List ℕ) → a' ≡ a → b' ≡ b → length a' ≡ 30 → length rest ≡ 32
    → take 30 (a' ++ rest) ++ (b' ++ drop 32 (drop 30 (a' ++ rest))) ≡ a ++ b
joined-is {a} {a'} {b} {b'} rest ha hb front behind =
    ap₂ (λ (x y : List ℕ). x ++ (b' ++ drop 32 y)) (take_at a' rest 30 front) (drop_at a' rest 30 front)
    ∙ ap (λ (z : List ℕ). a' ++ (b' ++ z)) (drop_of_length-le rest {i = 32} (omega (arith, behind)))
    ∙ ap₂ ◌++◌ ha (append-nil b' ∙ hb)
