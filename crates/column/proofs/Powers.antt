-- Sums of powers: e₁ X₁^s + e₂ X₂^s + .., with distinct X, is zero for as many s as it has terms only where every e is zero. Assumes nothing.
use mathlib.Core.Path.{◌≡◌, refl, sym, ap, ap₂, ◌∙◌}
use mathlib.Core.List.{List, [], ◌∷◌}
use Prim.Native.Nat.{ℕ, zero, suc, ◌<◌, ◌≤◌, suc-le-suc}
use native.Mathlib.Nat.{suc_inj, le_refl, zero-lt-suc}
use native.Mathlib.Omega.{arith}
use lib.ListN.{length}
use Rattle.laws.specs.Bytes.{Bytes}
use Rattle.laws.proofs.Bytes.{bytes-none, bytes-cons}
use Rattle.galois.specs.Field.{α, sum, product, power}
use Rattle.galois.proofs.Sum.{sum-zero, zero-sum, sum_self, sum-byte, sum-swap, sum_same}
use Rattle.galois.proofs.Product.{product-byte, product-comm, product-assoc, product-left-comm, product-sum, sum-product, product-zero, zero-product, product-one}
use Rattle.galois.proofs.Power.{power-byte}
use Rattle.galois.proofs.Logarithm.{α-distinct}
use Rattle.galois.proofs.Inverse.{no-divisor}

-- the sum of e X^s, where X is α^k, over the pairs of two lists
unfoldable pub total : List ℕ → List ℕ → ℕ → ℕ
total [] ks s = 0
total (e ∷ es) [] s = 0
total (e ∷ es) (k ∷ ks) s = sum (product e (power (power α k) s)) (total es ks s)

-- the exponents fall, from below m
abbrev pub Falls : ℕ → List ℕ → Type 0
Falls m [] = Unit {0}
Falls m (k ∷ ks) = (k < m) × Falls k ks

abbrev pub Zeros : List ℕ → Type 0
Zeros [] = Unit {0}
Zeros (e ∷ es) = (e ≡ 0) × Zeros es

-- ---- to take the term of X = α^k away, each other e is multiplied by its own X plus this one

unfoldable reduced : ℕ → List ℕ → List ℕ → List ℕ
reduced k [] ks = []
reduced k (e ∷ es) [] = []
reduced k (e ∷ es) (j ∷ ks) = product e (sum (power α j) (power α k)) ∷ reduced k es ks

length-reduced : (k : ℕ) (es ks : List ℕ) → length es ≡ length ks → length (reduced k es ks) ≡ length ks
unfolding reduced
length-reduced k [] ks e = e
length-reduced k (a ∷ es) [] e = refl
length-reduced k (a ∷ es) (j ∷ ks) e = ap suc (length-reduced k es ks (suc_inj e))

bytes-reduced : (k : ℕ) (es ks : List ℕ) → Bytes (reduced k es ks)
unfolding reduced
bytes-reduced k [] ks = bytes-none
bytes-reduced k (a ∷ es) [] = bytes-none
bytes-reduced k (a ∷ es) (j ∷ ks) =
    bytes-cons (product a (sum (power α j) (power α k))) (reduced k es ks) (product-byte a (sum (power α j) (power α k))) (bytes-reduced k es ks)

total-reduced : (k : ℕ) (es ks : List ℕ) (s : ℕ) → total (reduced k es ks) ks s ≡ sum (total es ks (suc s)) (product (power α k) (total es ks s))
unfolding reduced total power
total-reduced k [] ks s = sym (zero-sum (product (power α k) 0) ∙ product-zero (power α k))
total-reduced k (a ∷ es) [] s = sym (zero-sum (product (power α k) 0) ∙ product-zero (power α k))
total-reduced k (a ∷ es) (j ∷ ks) s =
    ap₂ sum (term a (power α j) (power α k) (power (power α j) s)) (total-reduced k es ks s)
    ∙ sum-swap (product a (product (power α j) (power (power α j) s))) (product (power α k) (product a (power (power α j) s))) (total es ks (suc s))
    (product (power α k) (total es ks s))
    ∙ ap (sum (sum (product a (product (power α j) (power (power α j) s))) (total es ks (suc s))))
    (sym (product-sum (power α k) (product a (power (power α j) s)) (total es ks s)))
  where
    term : (a x y p : ℕ) → product (product a (sum x y)) p ≡ sum (product a (product x p)) (product y (product a p))
    term a x y p =
        product-assoc a (sum x y) p
        ∙ ap (product a) (sum-product p x y)
        ∙ product-sum a (product x p) (product y p)
        ∙ ap (sum (product a (product x p))) (product-left-comm a y p)

positive : (n : ℕ) → (n ≡ 0 → ⊥) → 0 < n
positive zero h = absurd (h refl)
positive (suc n) h = zero-lt-suc n

-- the factor is not zero
factor-positive : (j k : ℕ) → j < k → k < 255 → 0 < sum (power α j) (power α k)
factor-positive j k h hk = positive (sum (power α j) (power α k)) (λ e. unlike (α-distinct j k (omega arith) hk (sum_same (power α j) (power α k) e)))
  where
    unlike : j ≡ k → ⊥
    unlike e = omega arith

reduced-zeros : (k : ℕ) → k < 255 → (es ks : List ℕ) (m : ℕ) → m ≤ k → length es ≡ length ks → Falls m ks → Bytes es → Zeros (reduced k es ks) → Zeros es
unfolding reduced
reduced-zeros k hk [] ks m hm e f b z = tt
reduced-zeros k hk (a ∷ es) [] m hm e f b z = absurd (omega arith)
reduced-zeros k hk (a ∷ es) (j ∷ ks) m hm e f b z = (
  no-divisor (sum (power α j) (power α k)) a (factor-positive j k (omega arith) hk) (sum-byte (power-byte α j) (power-byte α k)) (b 0)
      (product-comm (sum (power α j) (power α k)) a ∙ z.0),
  reduced-zeros k hk es ks j (omega arith) (suc_inj e) f.1 (λ i. b (suc i)) z.1,
)

total-zeros : (es ks : List ℕ) (s : ℕ) → Zeros es → total es ks s ≡ 0
unfolding total
total-zeros [] ks s z = refl
total-zeros (e ∷ es) [] s z = refl
total-zeros (e ∷ es) (k ∷ ks) s z =
    ap₂ sum (ap (λ (u : ℕ). product u (power (power α k) s)) z.0 ∙ zero-product (power (power α k) s)) (total-zeros es ks s z.1) ∙ sum_self 0

-- ---- the law

module _ (k : ℕ) (ks : List ℕ) (m : ℕ) (hm : m ≤ 255) (f : Falls m (k ∷ ks)) (a : ℕ) (es : List ℕ) (e : length (a ∷ es) ≡ length (k ∷ ks))
    (b : Bytes (a ∷ es)) (h : (s : ℕ) → s < length (k ∷ ks) → total (a ∷ es) (k ∷ ks) s ≡ 0) where
  fewer : (s : ℕ) → s < length ks → total (reduced k es ks) ks s ≡ 0
  unfolding total power
  fewer s hs =
      total-reduced k es ks s
      ∙ ap₂ sum (sym (sum_same (product a (product (power α k) (power (power α k) s))) (total es ks (suc s)) (h (suc s) (suc-le-suc hs))))
      (ap (product (power α k)) (sym (sum_same (product a (power (power α k) s)) (total es ks s) (h s (omega arith))))
      ∙ product-left-comm (power α k) a (power (power α k) s))
      ∙ sum_self (product a (product (power α k) (power (power α k) s)))

  all-zeros : Zeros (reduced k es ks) → Zeros (a ∷ es)
  unfolding total power
  all-zeros z = (first, rest)
    where
      rest : Zeros es
      rest = reduced-zeros k (omega arith) es ks k (le_refl k) (suc_inj e) f.1 (λ i. b (suc i)) z

      first : a ≡ 0
      first =
          sym (product-one a (b 0))
          ∙ sym (sum-zero (product a 1))
          ∙ ap (sum (product a 1)) (sym (total-zeros es ks 0 rest))
          ∙ h 0 (zero-lt-suc (length ks))

pub vanish : (ks : List ℕ) (m : ℕ) → m ≤ 255 → Falls m ks → (es : List ℕ) → length es ≡ length ks → Bytes es
    → ((s : ℕ) → s < length ks → total es ks s ≡ 0) → Zeros es
vanish [] m hm f [] e b h = tt
vanish [] m hm f (a ∷ es) e b h = absurd (omega arith)
vanish (k ∷ ks) m hm f [] e b h = tt
vanish (k ∷ ks) m hm f (a ∷ es) e b h =
    all-zeros k ks m hm f a es e b h
    (vanish ks k (omega arith) f.1 (reduced k es ks) (length-reduced k es ks (suc_inj e)) (bytes-reduced k es ks) (fewer k ks m hm f a es e b h))
