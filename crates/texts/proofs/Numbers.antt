-- The digits that `io` gives are those of the definitions. Assumes nothing.
use mathlib.Core.Path.{◌≡◌, refl, ap, ap₂, ◌∙◌}
use mathlib.Core.Bool.{Bool, true, false, cond}
use mathlib.Core.List.{List, [], ◌∷◌, ◌++◌}
use Prim.Native.Nat.{ℕ, zero, suc, ◌+◌, ◌-◌, ◌*◌, ◌/◌, ◌%◌, ◌^◌, ◌≤◌, ◌<◌}
use native.Mathlib.Nat.{pow-suc, pow-le-pow_right}
use native.Mathlib.Decide.{dec_lt}
use native.Mathlib.Omega.{arith}
use borrow.Author.Tests.{le-ltb, lt-ltb}
use lib.Dec.{ltb}
use lib.ListN.{length, length-append}
use Rattle.io.specs.Digits.{last_digits, hex_digit_ascii, IsDigitCount}
use Rattle.texts.specs.declared.Text.{Text}
use Rattle.texts.specs.Text.{added}
use Rattle.texts.specs.Numbers.{decimal_to, decimal, hexadecimal}

pub decimal-short : (k n : ℕ) → length (decimal_to k n) ≤ k
unfolding decimal_to
decimal-short zero n = omega arith
decimal-short (suc k) n = by (ltb n 10) (decimal-short k (n / 10))
  where
    by : (t : Bool) → length (decimal_to k (n / 10)) ≤ k → length (cond t ((48 + n) ∷ []) (decimal_to k (n / 10) ++ ((48 + n % 10) ∷ []))) ≤ suc k
    by true h = omega arith
    by false h = omega (arith, length-append (decimal_to k (n / 10)) ((48 + n % 10) ∷ []))

pub length-hexadecimal : (n : ℕ) → length (hexadecimal n) ≡ 8
unfolding hexadecimal
length-hexadecimal n = refl

-- ---- decimal

one-digit : (n : ℕ) → n < 10 → hex_digit_ascii (n % 10) ≡ 48 + n
one-digit n h =
    let e : n % 10 ≡ n = omega arith in
    ap hex_digit_ascii e ∙ simp (lt-ltb _ _ h)

last-digit : (n : ℕ) → hex_digit_ascii (n % 10) ≡ 48 + n % 10
last-digit n = let h : n % 10 < 10 = omega arith in simp (lt-ltb _ _ h)

-- the tens of a number with one digit more
tens : (n k : ℕ) → IsDigitCount 10 1 n (suc (suc k)) → (10 ≤ n) × IsDigitCount 10 1 (n / 10) (suc k)
tens n k few =
    let high : n < 10 ^ suc k * 10 = rw pow-suc at few.1 in
    let one_less : suc (suc k) - 1 ≡ suc k = omega arith in
    let low : 10 ^ suc k ≤ n = rw one_less at (few.2 (omega arith)) in
    let none : 0 ≤ k = omega arith in
    let least : 10 ^ 0 ≤ 10 ^ k = pow-le-pow_right (omega arith) none in
    let step : 10 ^ suc k ≡ 10 ^ k * 10 = pow-suc 10 k in
    let less : suc k - 1 ≡ k = omega arith in
    (omega arith, (omega arith, omega arith, λ h. rw less (omega arith)))

decimal-is : (k f n : ℕ) → k ≤ f → IsDigitCount 10 1 n k → last_digits 10 k n ≡ decimal_to f n
unfolding decimal_to
decimal-is zero f n h few = absurd (omega (arith, few.0))
decimal-is (suc k) zero n h few = absurd (omega arith)
decimal-is (suc zero) (suc f) n h few =
    let small : n < 10 = few.1 in
    simp (lt-ltb _ _ small) (ap (λ (d : ℕ). d ∷ []) (one-digit n small))
decimal-is (suc (suc k)) (suc f) n h few =
    let more = tens n k few in
    let front : last_digits 10 (suc k) (n / 10) ≡ decimal_to f (n / 10) = decimal-is (suc k) f (n / 10) (omega arith) more.1 in
    simp (le-ltb _ _ more.0) (ap₂ (λ (l : List ℕ) (d : ℕ). l ++ (d ∷ [])) front (last-digit n))

-- ---- how many digits there are

most : (b least n k m : ℕ) → 0 < b → n < b ^ m → least ≤ m → IsDigitCount b least n k → k ≤ m
most b least n k m base h within few =
    elim (dec_lt m k) [
      | yes more ↦
          let some : m ≤ k - 1 = omega arith in
          let low : b ^ m ≤ b ^ (k - 1) = pow-le-pow_right base some in
          let high : b ^ (k - 1) ≤ n = few.2 (omega arith) in
          absurd (omega arith)
      | no less ↦ omega arith
    ]

-- of the digits that were put behind a text
pub put-decimal : (text t : Text) (l : List ℕ) (n k : ℕ) → t ≡ added text l → l ≡ last_digits 10 k n → IsDigitCount 10 1 n k → n < 18446744073709551616 → t ≡ added text (decimal n)
put-decimal text t l n k e is few h =
    let below : n < 10 ^ 20 = omega arith in
    e ∙ ap (added text) (is ∙ decimal-is k 20 n (most 10 1 n k 20 (omega arith) below (omega arith) few) few)

pub put-hexadecimal : (text t : Text) (l : List ℕ) (n k : ℕ) → t ≡ added text l → l ≡ last_digits 16 k n → IsDigitCount 16 8 n k → n < 4294967296 → t ≡ added text (hexadecimal n)
unfolding hexadecimal
put-hexadecimal text t l n k e is few h =
    let below : n < 16 ^ 8 = omega arith in
    let many : k ≤ 8 = most 16 8 n k 8 (omega arith) below (omega arith) few in
    let eight : k ≡ 8 = omega (arith, few.0) in
    e ∙ ap (added text) (is ∙ ap (λ (j : ℕ). last_digits 16 j n) eight)
