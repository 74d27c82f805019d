-- The code without a loop over bits: a quotient by G(x) is a sum of shifted copies. Assumes nothing.
use mathlib.Core.Path.{◌≡◌, refl, sym, ap, ap₂, subst, ◌∙◌}
use Prim.Native.Nat.{ℕ, ◌+◌, ◌*◌, ◌-◌, ◌/◌, ◌%◌, ◌^◌, ◌<◌}
use native.Mathlib.Nat.{mod-lt, div-eq_of_lt, lt_of_lt_of_le, mod-add-mod, add-mod-mod, mul-add-mod_self_right}
use native.Mathlib.Omega.{arith}
use lib.Arith.{bin_ind}
use lib.Bits.{bit_xor, xor_comm, xor_self, xor_zero_l, xor_zero_r, xor_lt, xor_shr, xor_block, xor_shifted, xor_add_and}
use lib.Count.{ones, ones_in, ones_step}
use lib.Pow.{pow_pos, split, shr-shr, shr_lt}
use Rattle.laws.proofs.Xor.{xor_assoc, xor-cancel, xor-left, xor-half, xor-scaled, raised}
use Rattle.bit_sums.proofs.Folded.{folded, folded-twice, folded-comm, folded-xor, folded-shr, folded-lt}
use Rattle.edc.specs.Edc.{times_g}
use Rattle.edc.proofs.Division.{Leaves}

-- ---- sums of the bits above

-- remainders modulo 2 of a sum of sums
odd-sums : (d r a b s t : ℕ) → d % 2 ≡ (a + b) % 2 → r % 2 ≡ (s + t) % 2 → (d % 2 + r) % 2 ≡ (a % 2 + s + (b % 2 + t)) % 2
odd-sums d r a b s t e f =
    let first : a % 2 + s + (b % 2 + t) ≡ a % 2 + (b % 2 + (s + t)) = omega arith in
    let second : a + (b % 2 + (s + t)) ≡ b % 2 + (a + (s + t)) = omega arith in
    let third : b + (a + (s + t)) ≡ a + b + (s + t) = omega arith in
    ap (λ (x : ℕ). (x + r) % 2) e
    ∙ mod-add-mod (a + b) 2 r
    ∙ sym (add-mod-mod (a + b) r 2)
    ∙ ap (λ (x : ℕ). (a + b + x) % 2) f
    ∙ add-mod-mod (a + b) (s + t) 2
    ∙ sym (ap (λ (x : ℕ). x % 2) first
    ∙ mod-add-mod a 2 (b % 2 + (s + t))
    ∙ ap (λ (x : ℕ). x % 2) second
    ∙ mod-add-mod b 2 (a + (s + t))
    ∙ ap (λ (x : ℕ). x % 2) third)

ones-xor : (a b : ℕ) → ones (bit_xor a b) % 2 ≡ (ones a + ones b) % 2
ones-xor =
    bin_ind (λ (a : ℕ). (b : ℕ) → ones (bit_xor a b) % 2 ≡ (ones a + ones b) % 2) (λ b. omega (arith, none, ap ones (xor_zero_l b)))
    (λ a half b.
    let rest : ones (bit_xor a b / 2) % 2 ≡ (ones (a / 2) + ones (b / 2)) % 2 = ap (λ (x : ℕ). ones x % 2) (xor-half a b) ∙ half (b / 2) in
    let odd : bit_xor a b % 2 ≡ (a + b) % 2 = omega (arith, xor_add_and a b) in
    ap (λ (x : ℕ). x % 2) (ones_step (bit_xor a b))
    ∙ odd-sums (bit_xor a b) (ones (bit_xor a b / 2)) a b (ones (a / 2)) (ones (b / 2)) odd rest
    ∙ sym (ap₂ (λ (x y : ℕ). (x + y) % 2) (ones_step a) (ones_step b)))
  where
    none : ones 0 ≡ 0
    none = unfold ones ones_in in refl

-- the lowest of the sums is odd where the number of ones is
pub sums-odd : (s : ℕ) → ones (folded 1 s) % 2 ≡ s % 2
unfolding folded
sums-odd s = omega (arith, ones-xor s (s / 2), ones_step s)

-- the sums of a number 32 bits higher go on below it with their lowest
unfoldable pub sums_raised : ℕ → ℕ
sums_raised s = s * 2 ^ 32 + s % 2 * (2 ^ 32 - 1)

pub raised-sums : (s : ℕ) → folded 1 (sums_raised s) ≡ folded 1 s * 2 ^ 32
unfolding folded sums_raised
raised-sums s =
    let lower : ℕ = s % 2 * (2 ^ 32 - 1) in
    let lower-lt : lower < 2 ^ 32 = omega arith in
    let half : (s * 2 ^ 32 + lower) / 2 ≡ s / 2 * 2 ^ 32 + lower = omega arith in
    ap (bit_xor (s * 2 ^ 32 + lower)) half ∙ xor_block 32 s (s / 2) lower lower lower-lt lower-lt ∙ ap (λ (x : ℕ). bit_xor s (s / 2) * 2 ^ 32 + x) (xor_self lower) ∙ omega arith

-- ---- the quotient

-- what q(x) G(x) has below x^32, for a word q
unfoldable pub low_of : ℕ → ℕ
low_of q = bit_xor (bit_xor (q * 2 ^ 31 % 2 ^ 32) (q * 2 ^ 4 % 2 ^ 32)) q

-- and from x^32 on
unfoldable pub high_of : ℕ → ℕ
high_of q = bit_xor (folded 1 q) (folded 4 q / 2 ^ 28)

cancel : (u v w z a b c : ℕ) → bit_xor (bit_xor u (bit_xor (bit_xor v a) (bit_xor (bit_xor w b) (bit_xor z c)))) (bit_xor (bit_xor a b) c) ≡ bit_xor (bit_xor u v) (bit_xor w z)
cancel u v w z a b c = simp (xor_assoc, xor_comm, xor-left, xor_self)

-- the bits of q from x^32 on have no part in what is below
low_word : (q : ℕ) → bit_xor (bit_xor (q * 2 ^ 31 % 2 ^ 32) (q * 2 ^ 4 % 2 ^ 32)) (q % 2 ^ 32) ≡ low_of (q % 2 ^ 32)
unfolding low_of
low_word q =
    let a : q / 2 ^ 32 * 2 ^ 31 * 2 ^ 32 + q % 2 ^ 32 * 2 ^ 31 ≡ q * 2 ^ 31 = omega arith in
    let b : q / 2 ^ 32 * 2 ^ 4 * 2 ^ 32 + q % 2 ^ 32 * 2 ^ 4 ≡ q * 2 ^ 4 = omega arith in
    let part : (k : ℕ) → (q / 2 ^ 32 * k * 2 ^ 32 + q % 2 ^ 32 * k) % 2 ^ 32 ≡ q % 2 ^ 32 * k % 2 ^ 32 = λ k. mul-add-mod_self_right (q / 2 ^ 32 * k) (2 ^ 32) (q % 2 ^ 32 * k) in
    cc (a, b, part (2 ^ 31), part (2 ^ 4))

pub low-leaves : (q : ℕ) → Leaves (high_of q * 2 ^ 32) (low_of (q % 2 ^ 32))
low-leaves q = subst (Leaves (high_of q * 2 ^ 32)) (low_word q) leaves
  where
    u : ℕ
    u = q * 2 ^ 32

    v : ℕ
    v = q / 2 * 2 ^ 32

    w : ℕ
    w = q / 2 ^ 28 * 2 ^ 32

    z : ℕ
    z = q / 2 ^ 32 * 2 ^ 32

    a : ℕ
    a = q * 2 ^ 31 % 2 ^ 32

    b : ℕ
    b = q * 2 ^ 4 % 2 ^ 32

    c : ℕ
    c = q % 2 ^ 32

    parted : q ≡ bit_xor z c
    parted = sym (xor_shifted (q / 2 ^ 32) 32 c (mod-lt q (pow_pos 32)) ∙ split q 32)

    shifted : bit_xor q (q / 2 ^ 4) / 2 ^ 28 ≡ bit_xor (q / 2 ^ 28) (q / 2 ^ 32)
    shifted = xor_shr q (q / 2 ^ 4) 28 ∙ ap (bit_xor (q / 2 ^ 28)) (shr-shr q 4 28)

    leaves : Leaves (high_of q * 2 ^ 32) (bit_xor (bit_xor a b) c)
    leaves =
        unfold times_g folded high_of in
        record {
          low = xor_lt 32 (bit_xor a b) c (xor_lt 32 a b (mod-lt (q * 2 ^ 31) (pow_pos 32)) (mod-lt (q * 2 ^ 4) (pow_pos 32))) (mod-lt q (pow_pos 32));
          quotient = q;
          whole =
              xor-scaled (bit_xor q (q / 2)) (bit_xor q (q / 2 ^ 4) / 2 ^ 28) 32
              ∙ ap₂ bit_xor (xor-scaled q (q / 2) 32) (ap (λ (x : ℕ). x * 2 ^ 32) shifted ∙ xor-scaled (q / 2 ^ 28) (q / 2 ^ 32) 32)
              ∙ sym (cancel u v w z a b c)
              ∙ ap₂ (λ (x y : ℕ). bit_xor (bit_xor u (bit_xor x (bit_xor y (bit_xor z c)))) (bit_xor (bit_xor a b) c)) (sym (raised q 1 31)) (sym (raised q 28 4))
              ∙ ap (λ (x : ℕ). bit_xor (bit_xor u (bit_xor (q * 2 ^ 31) (bit_xor (q * 2 ^ 4) x))) (bit_xor (bit_xor a b) c)) (sym parted);
        }

pub high_small : (q : ℕ) → q < 2 ^ 28 → high_of q ≡ folded 1 q
unfolding high_of
high_small q h = ap (bit_xor (folded 1 q)) (div-eq_of_lt (folded-lt 4 28 q h)) ∙ xor_zero_r (folded 1 q)

-- what corrects the quotient: the sums of what x^4 + 1 of G(x) brings back to x^32 and above, and of what that brings back
unfoldable pub carried : ℕ → ℕ
carried v = bit_xor (v / 2 ^ 28) (v / 2 ^ 30)

unfoldable pub carried_twice : ℕ → ℕ
carried_twice v = bit_xor (bit_xor (v / 2 ^ 56) (v / 2 ^ 60)) (bit_xor (v / 2 ^ 57) (v / 2 ^ 61))

carried-folded : (v : ℕ) → carried v ≡ folded 2 (v / 2 ^ 28)
unfolding carried folded
carried-folded v = ap (bit_xor (v / 2 ^ 28)) (sym (shr-shr v 28 2))

twice-folded : (v : ℕ) → carried_twice v ≡ folded 1 (folded 4 (v / 2 ^ 56))
unfolding carried_twice folded
twice-folded v =
    let u : ℕ = v / 2 ^ 56 in
    let four : bit_xor u (v / 2 ^ 60) ≡ bit_xor u (u / 2 ^ 4) = ap (bit_xor u) (sym (shr-shr v 56 4)) in
    let one : bit_xor (v / 2 ^ 57) (v / 2 ^ 61) ≡ bit_xor u (u / 2 ^ 4) / 2 ^ 1 =
    sym (ap (λ (x : ℕ). x / 2 ^ 1) (sym four) ∙ xor_shr u (v / 2 ^ 60) 1 ∙ ap₂ bit_xor (shr-shr v 56 1) (shr-shr v 60 1)) in
    ap₂ bit_xor four one

-- the quotient whose product has v from x^32 on: s are the sums of v
unfoldable pub quotient_by_g : ℕ → ℕ → ℕ
quotient_by_g v s = bit_xor (bit_xor s (carried v)) (carried_twice v)

pub quotient-high : (v s : ℕ) → v < 2 ^ 64 → folded 1 s ≡ v → high_of (quotient_by_g v s) ≡ v
unfolding high_of quotient_by_g
quotient-high v s h e =
    let u : ℕ = v / 2 ^ 56 in
    let b : ℕ = folded 2 (v / 2 ^ 28) in
    let c : ℕ = folded 1 (folded 4 u) in
    let four : folded 4 s ≡ folded 1 (folded 2 v) =
    sym (folded-twice 2 s) ∙ ap (folded 2) (sym (folded-twice 1 s) ∙ ap (folded 1) e) ∙ folded-comm 2 1 v in
    let first : folded 4 s / 2 ^ 28 ≡ folded 1 b = ap (λ (x : ℕ). x / 2 ^ 28) four ∙ folded-shr 1 28 (folded 2 v) ∙ ap (folded 1) (folded-shr 2 28 v) in
    let second : folded 4 b / 2 ^ 28 ≡ folded 1 c =
    folded-shr 4 28 b
    ∙ ap (folded 4) (folded-shr 2 28 (v / 2 ^ 28) ∙ ap (folded 2) (shr-shr v 28 28))
    ∙ folded-comm 4 2 u
    ∙ sym (folded-twice 1 (folded 4 u)) in
    let small : c < 2 ^ 8 = folded-lt 1 8 (folded 4 u) (folded-lt 4 8 u (shr_lt 8 56 h)) in
    let third : folded 4 c / 2 ^ 28 ≡ 0 = div-eq_of_lt (lt_of_lt_of_le (folded-lt 4 8 c small) (omega arith)) in
    let low : folded 1 (bit_xor (bit_xor s b) c) ≡ bit_xor (bit_xor v (folded 1 b)) (folded 1 c) =
    folded-xor 1 (bit_xor s b) c ∙ ap (λ (x : ℕ). bit_xor x (folded 1 c)) (folded-xor 1 s b ∙ ap (λ (x : ℕ). bit_xor x (folded 1 b)) e) in
    let high : folded 4 (bit_xor (bit_xor s b) c) / 2 ^ 28 ≡ bit_xor (bit_xor (folded 1 b) (folded 1 c)) 0 =
    ap (λ (x : ℕ). x / 2 ^ 28) (folded-xor 4 (bit_xor s b) c ∙ ap (λ (x : ℕ). bit_xor x (folded 4 c)) (folded-xor 4 s b))
    ∙ xor_shr (bit_xor (folded 4 s) (folded 4 b)) (folded 4 c) 28
    ∙ ap₂ bit_xor (xor_shr (folded 4 s) (folded 4 b) 28 ∙ ap₂ bit_xor first second) third in
    let same : bit_xor (bit_xor s (carried v)) (carried_twice v) ≡ bit_xor (bit_xor s b) c = ap₂ (λ (x y : ℕ). bit_xor (bit_xor s x) y) (carried-folded v) (twice-folded v) in
    ap (λ (q : ℕ). bit_xor (folded 1 q) (folded 4 q / 2 ^ 28)) same ∙ ap₂ bit_xor low high ∙ twice v (folded 1 b) (folded 1 c)
  where
    twice : (v b c : ℕ) → bit_xor (bit_xor (bit_xor v b) c) (bit_xor (bit_xor b c) 0) ≡ v
    twice v b c = ap (bit_xor (bit_xor (bit_xor v b) c)) (xor_zero_r (bit_xor b c)) ∙ ap (λ (x : ℕ). bit_xor x (bit_xor b c)) (xor_assoc v b c) ∙ xor-cancel v (bit_xor b c)
