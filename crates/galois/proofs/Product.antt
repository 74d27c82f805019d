-- The laws of the product: each is linear in its arguments, and so settled by its values at the eight bits. Assumes nothing.
use mathlib.Core.Path.{◌≡◌, refl, sym, ap, ap₂, ◌∙◌}
use Prim.Native.Nat.{ℕ, zero, suc, ◌*◌, ◌/◌, ◌%◌, ◌<◌}
use native.Mathlib.Nat.{mod-lt, mod-eq_of_lt, zero-lt-suc, zero-mul, one-mul, add-zero}
use native.Mathlib.Omega.{arith}
use lib.Bits.{bit_xor, xor_shr, xor_mod, xor_block}
use Rattle.laws.proofs.Finite.{all, all₂}
use Rattle.laws.proofs.Xor.{bit-times, xor-odd, xor-half}
use Rattle.galois.specs.Field.{α⁸, sum, timesα, times, product}
use Rattle.galois.proofs.Sum.{sum_self, sum-byte, sum-swap}
use Rattle.galois.proofs.Linear.{Linear, linear-zero, linear-bit, linear, bilinear}

bit : (a : ℕ) → a % 2 < 2
bit a = mod-lt a (zero-lt-suc 1)

byte : (a : ℕ) → a % 256 < 256
byte a = mod-lt a (zero-lt-suc 255)

bit_byte : (x b : ℕ) → x < 2 → b < 256 → x * b < 256
bit_byte zero b h hb = rw zero-mul (zero-lt-suc 255)
bit_byte (suc zero) b h hb = rw one-mul hb
bit_byte (suc (suc x)) b h hb = absurd (omega arith)

-- ---- α times an element

timesα-linear : Linear timesα
unfolding timesα sum
timesα-linear a b =
    ap₂ sum (ap (λ (x : ℕ). x % 256) doubled ∙ xor_mod (a * 2) (b * 2) 8)
    (ap (λ (x : ℕ). x % 2 * α⁸) (xor_shr a b 7)
    ∙ ap (λ (x : ℕ). x * α⁸) (xor-odd (a / 128) (b / 128))
    ∙ bit-times (a / 128 % 2) (b / 128 % 2) α⁸ (bit (a / 128)) (bit (b / 128)))
    ∙ sum-swap (a * 2 % 256) (b * 2 % 256) (a / 128 % 2 * α⁸) (b / 128 % 2 * α⁸)
  where
    doubled : bit_xor a b * 2 ≡ bit_xor (a * 2) (b * 2)
    doubled =
        sym
        (ap₂ bit_xor (sym (add-zero (a * 2))) (sym (add-zero (b * 2)))
        ∙ xor_block 1 a b 0 0 (zero-lt-suc 1) (zero-lt-suc 1)
        ∙ add-zero (bit_xor a b * 2))

timesα-byte : (b : ℕ) → timesα b < 256
unfolding timesα
timesα-byte b = sum-byte (byte (b * 2)) (bit_byte (b / 128 % 2) α⁸ (bit (b / 128)) (omega arith))

-- ---- the n low bits of an element times another

times-byte : (n a b : ℕ) → b < 256 → times n a b < 256
unfolding times
times-byte zero a b h = zero-lt-suc 255
times-byte (suc n) a b h = sum-byte (timesα-byte (times n (a / 2) b)) (bit_byte (a % 2) b (bit a) h)

times-right : (n a : ℕ) → Linear (times n a)
unfolding times
times-right zero a b c = sym (sum_self 0)
times-right (suc n) a b c =
    ap₂ sum (ap timesα (times-right n (a / 2) b c) ∙ timesα-linear (times n (a / 2) b) (times n (a / 2) c)) (bit-right (a % 2) (bit a))
    ∙ sum-swap (timesα (times n (a / 2) b)) (timesα (times n (a / 2) c)) (a % 2 * b) (a % 2 * c)
  where
    bit-right : (x : ℕ) → x < 2 → x * sum b c ≡ sum (x * b) (x * c)
    bit-right zero h = zero-mul (sum b c) ∙ sym (ap₂ sum (zero-mul b) (zero-mul c) ∙ sum_self 0)
    bit-right (suc zero) h = one-mul (sum b c) ∙ sym (ap₂ sum (one-mul b) (one-mul c))
    bit-right (suc (suc x)) h = absurd (omega arith)

times-left : (n c : ℕ) → Linear (λ a. times n a c)
unfolding times sum
times-left zero c a b = sym (sum_self 0)
times-left (suc n) c a b =
    ap₂ sum
    (ap (λ (x : ℕ). timesα (times n x c)) (xor-half a b)
    ∙ ap timesα (times-left n c (a / 2) (b / 2))
    ∙ timesα-linear (times n (a / 2) c) (times n (b / 2) c))
    (ap (λ (x : ℕ). x * c) (xor-odd a b) ∙ bit-times (a % 2) (b % 2) c (bit a) (bit b))
    ∙ sum-swap (timesα (times n (a / 2) c)) (timesα (times n (b / 2) c)) (a % 2 * c) (b % 2 * c)

times-comm : (a b : ℕ) → a < 256 → b < 256 → times 8 a b ≡ times 8 b a
unfolding times timesα sum all all₂
times-comm = bilinear (times 8) (λ a b. times 8 b a) (times-left 8) (times-right 8) (times-right 8) (times-left 8) tt

times-timesα : (a b : ℕ) → a < 256 → b < 256 → times 8 (timesα a) b ≡ timesα (times 8 a b)
unfolding times timesα sum all all₂
times-timesα =
    bilinear (λ a b. times 8 (timesα a) b) (λ a b. timesα (times 8 a b))
    (λ c a b. ap (λ (x : ℕ). times 8 x c) (timesα-linear a b) ∙ times-left 8 c (timesα a) (timesα b))
    (λ a. times-right 8 (timesα a))
    (λ c a b. ap timesα (times-left 8 c a b) ∙ timesα-linear (times 8 a c) (times 8 b c))
    (λ a b c. ap timesα (times-right 8 a b c) ∙ timesα-linear (times 8 a b) (times 8 a c)) tt

times-assoc : (n a b c : ℕ) → b < 256 → c < 256 → times 8 (times n a b) c ≡ times n a (times 8 b c)
unfolding times
times-assoc zero a b c hb hc = linear-zero (λ a. times 8 a c) (times-left 8 c)
times-assoc (suc n) a b c hb hc =
    times-left 8 c (timesα (times n (a / 2) b)) (a % 2 * b)
    ∙ ap₂ sum (times-timesα (times n (a / 2) b) c (times-byte n (a / 2) b hb) hc ∙ ap timesα (times-assoc n (a / 2) b c hb hc))
    (linear-bit (λ a. times 8 a c) (times-left 8 c) (a % 2) b (bit a))

-- ---- the product

pub product-byte : (a b : ℕ) → product a b < 256
unfolding product
product-byte a b = times-byte 8 (a % 256) (b % 256) (byte b)

pub product-comm : (a b : ℕ) → product a b ≡ product b a
unfolding product
product-comm a b = times-comm (a % 256) (b % 256) (byte a) (byte b)

pub product-assoc : (a b c : ℕ) → product (product a b) c ≡ product a (product b c)
unfolding product
product-assoc a b c =
    ap (λ (x : ℕ). times 8 x (c % 256)) (mod-eq_of_lt (times-byte 8 (a % 256) (b % 256) (byte b)))
    ∙ times-assoc 8 (a % 256) (b % 256) (c % 256) (byte b) (byte c)
    ∙ ap (times 8 (a % 256)) (sym (mod-eq_of_lt (times-byte 8 (b % 256) (c % 256) (byte c))))

pub product-left-comm : (a b c : ℕ) → product a (product b c) ≡ product b (product a c)
product-left-comm a b c = sym (product-assoc a b c) ∙ ap (λ (x : ℕ). product x c) (product-comm a b) ∙ product-assoc b a c

-- the distributive law, on either side
pub product-sum : (a : ℕ) → Linear (product a)
unfolding product sum
product-sum a b c = ap (times 8 (a % 256)) (xor_mod b c 8) ∙ times-right 8 (a % 256) (b % 256) (c % 256)

pub sum-product : (c : ℕ) → Linear (λ a. product a c)
sum-product c a b = product-comm (sum a b) c ∙ product-sum c a b ∙ ap₂ sum (product-comm c a) (product-comm c b)

pub product-zero : (a : ℕ) → product a 0 ≡ 0
product-zero a = linear-zero (product a) (product-sum a)

pub zero-product : (a : ℕ) → product 0 a ≡ 0
zero-product a = product-comm 0 a ∙ product-zero a

pub one_product : (b : ℕ) → b < 256 → product 1 b ≡ b
unfolding product times timesα sum all
one_product = linear (product 1) (λ b. b) (product-sum 1) (λ a b. refl) tt

pub product-one : (b : ℕ) → b < 256 → product b 1 ≡ b
product-one b h = product-comm b 1 ∙ one_product b h

pub α-product : (b : ℕ) → b < 256 → product 2 b ≡ timesα b
unfolding product times timesα sum all
α-product = linear (product 2) timesα (product-sum 2) timesα-linear tt
