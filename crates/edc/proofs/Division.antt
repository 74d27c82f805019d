-- What division by G(x) leaves: there is one remainder of degree below 32, and the definition's division finds it. Assumes nothing.
use mathlib.Core.Path.{◌≡◌, sym, ap, ap₂, subst, ◌∙◌}
use mathlib.Core.List.{List, [], ◌∷◌}
use Prim.Native.Nat.{ℕ, suc, ◌+◌, ◌*◌, ◌-◌, ◌^◌, ◌<◌, ◌≤◌}
use native.Mathlib.Nat.{pow-suc, zero-add, add-mul, mul_assoc, mul_comm}
use native.Mathlib.Decide.{dec_lt}
use native.Mathlib.Omega.{arith}
use borrow.Author.Tests.{le-leb, lt-leb}
use lib.Bits.{bit_xor, xor_comm, xor_self, xor_zero_r, xor_lt, xor_block, xor_shifted}
use lib.ListN.{length}
use Rattle.laws.proofs.Xor.{xor_assoc, xor-cancel, xor-left, xor-equal, xor-scaled}
use Rattle.bits.specs.Bits.{Bits, number}
use Rattle.edc.specs.Edc.{polynomial_g, times_g, MultipleOfG, divided, remainder_by_g}
use Rattle.edc.proofs.Polynomial.{times_zero, times-one, times-add, times-scaled, times-low}

-- r is the remainder of p(x)
pub record Leaves (p r : ℕ) : Type 0 where
  pub low : r < 2 ^ 32
  pub quotient : ℕ
  pub whole : p ≡ bit_xor (times_g quotient) r

-- what is of degree below 32 is its own remainder
pub leaves-self : (r : ℕ) → r < 2 ^ 32 → Leaves r r
leaves-self r h = record { low = h; quotient = 0; whole = sym (ap (λ (x : ℕ). bit_xor x r) times_zero) }

pub leaves-add : {p q r s : ℕ} → Leaves p r → Leaves q s → Leaves (bit_xor p q) (bit_xor r s)
leaves-add {p} {q} {r} {s} a b =
    record {
      low = xor_lt 32 r s a.low b.low;
      quotient = bit_xor a.quotient b.quotient;
      whole = ap₂ bit_xor a.whole b.whole ∙ rw (times-add a.quotient b.quotient) (simp (xor_assoc, xor_comm, xor-left));
    }

-- there is no other
pub leaves-one : {p r s : ℕ} → Leaves p r → Leaves p s → r ≡ s
leaves-one {p} {r} {s} a b =
    let sum : Leaves (bit_xor p p) (bit_xor r s) = leaves-add a b in
    let multiple : times_g sum.quotient ≡ bit_xor r s = xor-equal (times_g sum.quotient) (bit_xor r s) (sym sum.whole ∙ xor_self p) in
    let none : sum.quotient ≡ 0 = times-low sum.quotient (omega (arith, multiple, sum.low)) in
    xor-equal r s (sym multiple ∙ ap times_g none ∙ times_zero)

-- a multiple of G(x) is what leaves 0
pub leaves-zero : {p : ℕ} → Leaves p 0 → MultipleOfG p
leaves-zero a = record { quotient = a.quotient; product = a.whole ∙ xor_zero_r (times_g a.quotient) }

pub multiple-leaves : {p : ℕ} → MultipleOfG p → Leaves p 0
multiple-leaves m = record { low = omega arith; quotient = m.quotient; whole = m.product ∙ sym (xor_zero_r (times_g m.quotient)) }

pub leaves-multiple : {p r : ℕ} → Leaves p r → MultipleOfG (bit_xor p r)
leaves-multiple {p} {r} a = record { quotient = a.quotient; product = ap (λ (x : ℕ). bit_xor x r) a.whole ∙ xor-cancel (times_g a.quotient) r }

pub multiple-scaled : {p : ℕ} (k : ℕ) → MultipleOfG p → MultipleOfG (p * 2 ^ k)
multiple-scaled k m = record { quotient = m.quotient * 2 ^ k; product = ap (λ (x : ℕ). x * 2 ^ k) m.product ∙ sym (times-scaled m.quotient k) }

-- ---- the division, bit by bit

-- G(x) without x^32
abbrev pub tail : ℕ
tail = 2 ^ 31 + 2 ^ 4 + 1

-- what has a degree of 32 loses x^32 with G(x)
pub taken-off : (d : ℕ) → 2 ^ 32 ≤ d → d < 2 ^ 33 → bit_xor d polynomial_g ≡ bit_xor (d - 2 ^ 32) tail
taken-off d h k =
    let split : d ≡ 1 * 2 ^ 32 + (d - 2 ^ 32) = omega arith in
    ap (λ (x : ℕ). bit_xor x polynomial_g) split ∙ xor_block 32 1 1 (d - 2 ^ 32) tail (omega arith) (omega arith) ∙ zero-add (bit_xor (d - 2 ^ 32) tail)

module _ (p r b : ℕ) (hb : b < 2) (l : Leaves p r) where
  -- before G(x) is taken off
  doubled : p * 2 + b ≡ bit_xor (times_g (l.quotient * 2)) (r * 2 + b)
  doubled =
      sym (xor_shifted p 1 b hb)
      ∙ ap (λ (x : ℕ). bit_xor (x * 2) b) l.whole
      ∙ ap (λ (x : ℕ). bit_xor x b) (xor-scaled (times_g l.quotient) r 1)
      ∙ xor_assoc (times_g l.quotient * 2) (r * 2) b
      ∙ ap₂ bit_xor (sym (times-scaled l.quotient 1)) (xor_shifted r 1 b hb)

  reduced : 2 ^ 32 ≤ r * 2 + b → Leaves (p * 2 + b) (bit_xor (r * 2 + b) polynomial_g)
  reduced h =
      record {
        low = omega (arith, taken-off (r * 2 + b) h (omega (arith, l.low)), xor_lt 32 (r * 2 + b - 2 ^ 32) tail (omega (arith, l.low)) (omega arith));
        quotient = bit_xor (l.quotient * 2) 1;
        whole =
            doubled
            ∙ sym (ap (λ (x : ℕ). bit_xor x (bit_xor (r * 2 + b) polynomial_g)) (times-add (l.quotient * 2) 1 ∙ ap (bit_xor (times_g (l.quotient * 2))) times-one)
            ∙ xor_assoc (times_g (l.quotient * 2)) polynomial_g (bit_xor (r * 2 + b) polynomial_g)
            ∙ ap (bit_xor (times_g (l.quotient * 2))) (xor_comm polynomial_g (bit_xor (r * 2 + b) polynomial_g) ∙ xor-cancel (r * 2 + b) polynomial_g));
      }

  pub leaves-more : Leaves (p * 2 + b) (divided r b)
  unfolding divided
  leaves-more =
      elim (dec_lt (r * 2 + b) (2 ^ 32)) [
        | yes h ↦ rw (lt-leb (2 ^ 32) (r * 2 + b) h) (record { low = h; quotient = l.quotient * 2; whole = doubled })
        | no h ↦ rw (le-leb (2 ^ 32) (r * 2 + b) (omega arith)) (reduced (omega arith))
      ]

-- the remainder of p(x), then bits
pub leaves-bits : (b : List ℕ) {p r : ℕ} → Bits b → Leaves p r → Leaves (p * 2 ^ length b + number b) (remainder_by_g r b)
unfolding remainder_by_g number
leaves-bits [] {p} {r} bits l = subst (λ (n : ℕ). Leaves n r) (omega arith) l
leaves-bits (x ∷ xs) {p} {r} bits l =
    let c : ℕ = 2 ^ length xs in
    let shifted : (p * 2 + x) * c + number xs ≡ p * 2 ^ suc (length xs) + (x * c + number xs) = rw (pow-suc 2 (length xs), mul_comm c 2, ← mul_assoc p 2 c, add-mul (p * 2) x c) (omega arith) in
    subst (λ (n : ℕ). Leaves n (remainder_by_g (divided r x) xs)) shifted (leaves-bits xs (λ i. bits (suc i)) (leaves-more p r x (bits 0) l))
