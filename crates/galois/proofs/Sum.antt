-- The laws of the sum, from those of exclusive or. Assumes nothing.
use mathlib.Core.Path.{◌≡◌, refl, sym, ap, ◌∙◌}
use Prim.Native.Nat.{ℕ, ◌<◌}
use lib.Bits.{xor_lt, xor_zero_r, xor_comm, xor_self}
use Rattle.laws.proofs.Xor.{xor_assoc}
use Rattle.galois.specs.Field.{sum}

pub sum-assoc : (a b c : ℕ) → sum (sum a b) c ≡ sum a (sum b c)
unfolding sum
sum-assoc = xor_assoc

pub sum_comm : (a b : ℕ) → sum a b ≡ sum b a
unfolding sum
sum_comm = xor_comm

pub sum-zero : (a : ℕ) → sum a 0 ≡ a
unfolding sum
sum-zero = xor_zero_r

pub zero-sum : (a : ℕ) → sum 0 a ≡ a
unfolding sum
zero-sum a = refl

-- each element is its own negative
pub sum_self : (a : ℕ) → sum a a ≡ 0
unfolding sum
sum_self = xor_self

pub sum-byte : {a b : ℕ} → a < 256 → b < 256 → sum a b < 256
unfolding sum
sum-byte {a} {b} = xor_lt 8 a b

pub sum-left-comm : (a b c : ℕ) → sum a (sum b c) ≡ sum b (sum a c)
sum-left-comm a b c = sym (sum-assoc a b c) ∙ ap (λ (x : ℕ). sum x c) (sum_comm a b) ∙ sum-assoc b a c

-- two sums, term by term
pub sum-swap : (a b c d : ℕ) → sum (sum a b) (sum c d) ≡ sum (sum a c) (sum b d)
sum-swap a b c d = sum-assoc a b (sum c d) ∙ ap (sum a) (sum-left-comm b c d) ∙ sym (sum-assoc a c (sum b d))

pub sum-cancel : (a b : ℕ) → sum a (sum a b) ≡ b
sum-cancel a b = sym (sum-assoc a a b) ∙ ap (λ (x : ℕ). sum x b) (sum_self a) ∙ zero-sum b

-- two elements whose sum is zero are equal
pub sum_same : (a b : ℕ) → sum a b ≡ 0 → a ≡ b
sum_same a b e = sym (sum-zero a) ∙ ap (sum a) (sym e) ∙ sum-cancel a b
