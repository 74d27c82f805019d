-- A number of n bits and its bits determine each other. Assumes nothing.
use mathlib.Core.Path.{◌≡◌, refl, sym, ap, ap₂, ◌∙◌}
use mathlib.Core.List.{List, [], ◌∷◌}
use Prim.Native.Nat.{ℕ, zero, suc, ◌+◌, ◌*◌, ◌-◌, ◌/◌, ◌%◌, ◌^◌, ◌<◌}
use native.Mathlib.Nat.{mod-eq_of_lt, pow-suc, le_of_suc-le-suc}
use native.Mathlib.Omega.{arith}
use lib.Arith.{digits_lt}
use lib.Bits.{block_half, block_odd}
use lib.ListN.{length, get_or}
use lib.Pow.{high, shr-shr, mod-pow-add}
use Rattle.laws.specs.Tabulate.{tabulate}
use Rattle.laws.proofs.Tabulate.{length-tabulate, get_d_tabulate, tabulate-ext}
use Rattle.bits.specs.Bits.{Bits, number, bits_of_number}

pub length-bits-of : (n v : ℕ) → length (bits_of_number n v) ≡ n
unfolding bits_of_number
length-bits-of n v = length-tabulate n (λ k. v / 2 ^ (n - 1 - k) % 2)

pub get_d-bits-of : (n v k : ℕ) → k < n → get_or (bits_of_number n v) k 0 ≡ v / 2 ^ (n - 1 - k) % 2
unfolding bits_of_number
get_d-bits-of n v k h = get_d_tabulate n (λ k. v / 2 ^ (n - 1 - k) % 2) k 0 h

-- one bit more in front
pub bits-of-more : (n v : ℕ) → bits_of_number (suc n) v ≡ v / 2 ^ n % 2 ∷ bits_of_number n v
unfolding bits_of_number tabulate
bits-of-more n v =
    let bit : (i j : ℕ) → i ≡ j → v / 2 ^ i % 2 ≡ v / 2 ^ j % 2 = λ i j e. ap (λ (k : ℕ). v / 2 ^ k % 2) e in
    ap₂ ◌∷◌ (bit (suc n - 1 - 0) n (omega arith))
    (tabulate-ext 0 n (λ k. v / 2 ^ (suc n - 1 - suc k) % 2) (λ k. v / 2 ^ (n - 1 - k) % 2) (λ k h. bit (suc n - 1 - suc k) (n - 1 - k) (omega arith)))

-- the bits of v make v modulo 2^n
pub number-of-bits : (n v : ℕ) → number (bits_of_number n v) ≡ v % 2 ^ n
unfolding number
number-of-bits zero v = unfold bits_of_number tabulate in omega arith
number-of-bits (suc n) v =
    ap number (bits-of-more n v)
    ∙ ap₂ (λ (x y : ℕ). v / 2 ^ n % 2 * 2 ^ x + y) (length-bits-of n v) (number-of-bits n v)
    ∙ sym (ap (λ (k : ℕ). v % 2 ^ k) (omega arith) ∙ mod-pow-add v 1 n)

pub number_lt : (b : List ℕ) → Bits b → number b < 2 ^ length b
unfolding number
number_lt [] h = omega arith
number_lt (x ∷ xs) h = rw (pow-suc 2 (length xs)) (omega (arith, digits_lt {q = x} {m = 2} {r = number xs} {c = 2 ^ length xs} (h 0) (number_lt xs (λ i. h (suc i)))))

-- what stands above bit n does not touch the bits below
pub below-block : (n a r t : ℕ) → t < n → (a * 2 ^ n + r) / 2 ^ t % 2 ≡ r / 2 ^ t % 2
below-block zero a r t h = absurd (omega arith)
below-block (suc n) a r zero h = block-odd' (a * 2 ^ suc n + r) r (block_odd a n r)
  where
    block-odd' : (x y : ℕ) → x % 2 ≡ y % 2 → x / 1 % 2 ≡ y / 1 % 2
    block-odd' x y e = omega arith
below-block (suc n) a r (suc t) h =
    halved (a * 2 ^ suc n + r) ∙ ap (λ (x : ℕ). x / 2 ^ t % 2) (block_half a n r) ∙ below-block n a (r / 2) t (le_of_suc-le-suc h) ∙ sym (halved r)
  where
    halved : (x : ℕ) → x / 2 ^ suc t % 2 ≡ x / 2 / 2 ^ t % 2
    halved x = ap (λ (k : ℕ). x / 2 ^ k % 2) (omega arith) ∙ ap (λ (y : ℕ). y % 2) (sym (shr-shr x 1 t))

-- the bits of the number that bits make are those bits
pub bits-of-number : (b : List ℕ) → Bits b → bits_of_number (length b) (number b) ≡ b
unfolding number
bits-of-number [] h = unfold bits_of_number tabulate in refl
bits-of-number (x ∷ xs) h =
    bits-of-more (length xs) (x * 2 ^ length xs + number xs)
    ∙ ap₂ ◌∷◌ front (rest ∙ bits-of-number xs (λ i. h (suc i)))
  where
    low : number xs < 2 ^ length xs
    low = number_lt xs (λ i. h (suc i))

    front : (x * 2 ^ length xs + number xs) / 2 ^ length xs % 2 ≡ x
    front = ap (λ (y : ℕ). y % 2) (high x (length xs) low) ∙ mod-eq_of_lt (h 0)

    rest : bits_of_number (length xs) (x * 2 ^ length xs + number xs) ≡ bits_of_number (length xs) (number xs)
    rest =
        unfold bits_of_number in
        tabulate-ext 0 (length xs) (λ k. (x * 2 ^ length xs + number xs) / 2 ^ (length xs - 1 - k) % 2) (λ k. number xs / 2 ^ (length xs - 1 - k) % 2)
        (λ k below. below-block (length xs) x (number xs) (length xs - 1 - k) (omega arith))

-- bit j of the number that bits make
pub number_bit : (b : List ℕ) (j : ℕ) → Bits b → j < length b → number b / 2 ^ (length b - 1 - j) % 2 ≡ get_or b j 0
number_bit b j h hj = sym (get_d-bits-of (length b) (number b) j hj) ∙ ap (λ (l : List ℕ). get_or l j 0) (bits-of-number b h)
