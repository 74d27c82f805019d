-- Exclusive or, beyond what lib.Bits has: it is associative, keeps multiples by powers of 2, and has a form that computes on words. Assumes nothing.
use mathlib.Core.Path.{◌≡◌, refl, sym, ap, ap₂, ◌∙◌}
use Prim.Native.Nat.{ℕ, zero, suc, ◌+◌, ◌*◌, ◌/◌, ◌%◌, ◌^◌, ◌<◌}
use native.Mathlib.Nat.{mod-lt, zero-lt-suc, zero-mul}
use native.Mathlib.Omega.{arith}
use lib.Arith.{bin_ind}
use lib.Dec.{eqb, eqb→eq, ltb, ltb→lt}
use lib.Bits.{bit_xor, differ, xor_step, xor_shr, xor_zero_r, xor_self, xor_comm, xor_block, xor_shifted}
use lib.Pow.{pow_pos, split, shl-shr, shr-shr}
use Rattle.laws.proofs.Finite.{all, all₂, all₃, all₂-at, all₃-at}

-- ---- single bits

differ-lt : (x y : ℕ) → x < 2 → y < 2 → differ x y < 2
unfolding all all₂
differ-lt x y hx hy = ltb→lt _ _ (all₂-at 2 2 (λ x y. ltb (differ x y) 2) tt x y hx hy)

differ-assoc : (x y z : ℕ) → x < 2 → y < 2 → z < 2 → differ (differ x y) z ≡ differ x (differ y z)
unfolding all all₂ all₃
differ-assoc x y z hx hy hz = eqb→eq _ _ (all₃-at 2 2 2 (λ x y z. eqb (differ (differ x y) z) (differ x (differ y z))) tt x y z hx hy hz)

odd : (a : ℕ) → a % 2 < 2
odd a = mod-lt a (zero-lt-suc 1)

-- a bit times a number
pub bit-times : (x y b : ℕ) → x < 2 → y < 2 → differ x y * b ≡ bit_xor (x * b) (y * b)
bit-times zero y b hx hy = sym (ap (λ (z : ℕ). bit_xor z (y * b)) (zero-mul b))
bit-times (suc zero) zero b hx hy = sym (ap (bit_xor (1 * b)) (zero-mul b) ∙ xor_zero_r (1 * b))
bit-times (suc zero) (suc zero) b hx hy = zero-mul b ∙ sym (xor_self (1 * b))
bit-times (suc zero) (suc (suc y)) b hx hy = absurd (omega arith)
bit-times (suc (suc x)) y b hx hy = absurd (omega arith)

-- ---- numbers

pub xor-half : (a b : ℕ) → bit_xor a b / 2 ≡ bit_xor (a / 2) (b / 2)
xor-half a b = xor_shr a b 1

pub xor-odd : (a b : ℕ) → bit_xor a b % 2 ≡ differ (a % 2) (b % 2)
xor-odd a b = omega (arith, xor_step a b, differ-lt (a % 2) (b % 2) (odd a) (odd b))

pub xor_assoc : (a b c : ℕ) → bit_xor (bit_xor a b) c ≡ bit_xor a (bit_xor b c)
xor_assoc =
    bin_ind (λ (a : ℕ). (b c : ℕ) → bit_xor (bit_xor a b) c ≡ bit_xor a (bit_xor b c)) (λ b c. refl)
    (λ a half b c.
    xor_step (bit_xor a b) c
    ∙ ap₂ (λ (x y : ℕ). x * 2 + y)
    (ap (λ (x : ℕ). bit_xor x (c / 2)) (xor-half a b) ∙ half (b / 2) (c / 2) ∙ ap (bit_xor (a / 2)) (sym (xor-half b c)))
    (ap (λ (x : ℕ). differ x (c % 2)) (xor-odd a b)
    ∙ differ-assoc (a % 2) (b % 2) (c % 2) (odd a) (odd b) (odd c)
    ∙ ap (differ (a % 2)) (sym (xor-odd b c)))
    ∙ sym (xor_step a (bit_xor b c)))

-- twice the same number has no effect
pub xor-cancel : (a b : ℕ) → bit_xor (bit_xor a b) b ≡ a
xor-cancel a b = xor_assoc a b b ∙ ap (bit_xor a) (xor_self b) ∙ xor_zero_r a

-- ---- sums of three, multiples

pub xor-left : (a b c : ℕ) → bit_xor a (bit_xor b c) ≡ bit_xor b (bit_xor a c)
xor-left a b c = sym (xor_assoc a b c) ∙ ap (λ (x : ℕ). bit_xor x c) (xor_comm a b) ∙ xor_assoc b a c

-- twice the same number has no effect
pub xor-twice : (a b : ℕ) → bit_xor a (bit_xor a b) ≡ b
xor-twice a b = sym (xor_assoc a a b) ∙ ap (λ (x : ℕ). bit_xor x b) (xor_self a)

-- a number that both have drops out
pub xor-both : (a b c : ℕ) → bit_xor (bit_xor a c) (bit_xor b c) ≡ bit_xor a b
xor-both a b c = ap (bit_xor (bit_xor a c)) (xor_comm b c) ∙ xor_assoc a c (bit_xor c b) ∙ ap (bit_xor a) (xor-twice c b)

-- two equal numbers have the exclusive or 0, and no others
pub xor-equal : (a b : ℕ) → bit_xor a b ≡ 0 → a ≡ b
xor-equal a b e = sym (xor-cancel a b) ∙ ap (λ (x : ℕ). bit_xor x b) e

pub xor-scaled : (a b k : ℕ) → bit_xor a b * 2 ^ k ≡ bit_xor (a * 2 ^ k) (b * 2 ^ k)
xor-scaled a b k =
    let whole : (x : ℕ) → x * 2 ^ k + 0 ≡ x * 2 ^ k = λ x. omega arith in
    sym (ap₂ bit_xor (sym (whole a)) (sym (whole b)) ∙ xor_block k a b 0 0 (pow_pos k) (pow_pos k) ∙ whole (bit_xor a b))

-- a number k bits higher: what then stands above bit k + j, and the rest
pub raised : (r j k : ℕ) → r * 2 ^ k ≡ bit_xor (r / 2 ^ j * 2 ^ (k + j)) (r * 2 ^ k % 2 ^ (k + j))
raised r j k =
    let top : r * 2 ^ k / 2 ^ (k + j) ≡ r / 2 ^ j = sym (shr-shr (r * 2 ^ k) k j) ∙ ap (λ (y : ℕ). y / 2 ^ j) (shl-shr r k) in
    let rest : ℕ = r * 2 ^ k % 2 ^ (k + j) in
    sym (xor_shifted (r / 2 ^ j) (k + j) rest (mod-lt (r * 2 ^ k) (pow_pos (k + j))) ∙ ap (λ (y : ℕ). y * 2 ^ (k + j) + rest) (sym top) ∙ split (r * 2 ^ k) (k + j))
