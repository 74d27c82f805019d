-- A power of two that is shifted within a width. Assumes nothing.
use mathlib.Core.Path.{◌≡◌, ◌∙◌}
use Prim.Native.Nat.{ℕ, ◌*◌, ◌%◌, ◌^◌, ◌<◌}
use native.Mathlib.Omega.{arith}
use lib.Pow.{shl_exact, pow_pos}

pub weight : (width k : ℕ) → k < width → 1 * 2 ^ k % 2 ^ width ≡ 2 ^ k
weight width k h = shl_exact {a = 1} 1 k width (omega arith) (omega arith) ∙ omega arith

pub weight-some : (width k : ℕ) → k < width → 0 < 1 * 2 ^ k % 2 ^ width
weight-some width k h = rw (weight width k h) (pow_pos k)
