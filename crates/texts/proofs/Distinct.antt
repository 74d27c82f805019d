-- A number is told by its digits, and the bytes of a text by the text. Assumes nothing.
use mathlib.Core.Path.{◌≡◌, refl, sym, ap, ap₂, ◌∙◌}
use mathlib.Core.Bool.{Bool, true, false, cond}
use mathlib.Core.List.{List, [], ◌∷◌, ◌++◌, append_assoc}
use Prim.Native.Nat.{ℕ, zero, suc, ◌+◌, ◌-◌, ◌*◌, ◌/◌, ◌%◌, ◌^◌, ◌≤◌, ◌<◌}
use native.Mathlib.Nat.{pow-suc}
use native.Mathlib.Omega.{arith}
use borrow.Author.Tests.{ltb-true, ltb-false}
use lib.Dec.{ltb}
use lib.ListN.{length, length-append, get_or, take}
use lib.Seq.{take-append_seam}
use Rattle.texts.specs.declared.Text.{Text}
use Rattle.laws.specs.Zeros.{zeros}
use Rattle.texts.specs.Text.{text_of}
use Rattle.texts.specs.Numbers.{decimal_to}

-- ---- a run of digits ends at the first byte that is none

pub data Digits : List ℕ → Type 0 where
  no-digit : Digits []
  a-digit : {d : ℕ} {l : List ℕ} → 48 ≤ d → Digits l → Digits (d ∷ l)

digits_last : {l : List ℕ} (d : ℕ) → 48 ≤ d → Digits l → Digits (l ++ (d ∷ []))
digits_last d h no-digit = a-digit h no-digit
digits_last d h (a-digit g ds) = a-digit g (digits_last d h ds)

pub decimal-digits : (k n : ℕ) → Digits (decimal_to k n)
unfolding decimal_to
decimal-digits zero n = no-digit
decimal-digits (suc k) n = by (ltb n 10) (decimal-digits k (n / 10))
  where
    by : (t : Bool) → Digits (decimal_to k (n / 10)) → Digits (cond t ((48 + n) ∷ []) (decimal_to k (n / 10) ++ ((48 + n % 10) ∷ [])))
    by true ds = a-digit {d = 48 + n} (omega arith) no-digit
    by false ds = digits_last (48 + n % 10) (omega arith) ds

pub split : {a b : List ℕ} → Digits a → Digits b → (x y : ℕ) (r s : List ℕ) → x < 48 → y < 48 → a ++ (x ∷ r) ≡ b ++ (y ∷ s) → (a ≡ b) × (r ≡ s)
split no-digit no-digit x y r s hx hy e = (refl, cc)
split no-digit (a-digit {d} {l} g bs) x y r s hx hy e = let z : x ≡ d = cc in absurd (omega arith)
split (a-digit {d} {l} g ds) no-digit x y r s hx hy e = let z : d ≡ y = cc in absurd (omega arith)
split (a-digit {d} {l} g ds) (a-digit {d = d'} {l = l'} g' bs) x y r s hx hy e =
    let first : d ≡ d' = cc in
    let rest : l ++ (x ∷ r) ≡ l' ++ (y ∷ s) = cc in
    let both = split ds bs x y r s hx hy rest in
    (ap₂ (λ (z : ℕ) (m : List ℕ). z ∷ m) first both.0, both.1)

-- ---- equal digits, equal numbers

last-same : (l m : List ℕ) (x y : ℕ) → l ++ (x ∷ []) ≡ m ++ (y ∷ []) → (l ≡ m) × (x ≡ y)
last-same [] [] x y e = (refl, cc)
last-same [] (b ∷ m) x y e = absurd (omega (arith, ap length e, length-append m (y ∷ [])))
last-same (a ∷ l) [] x y e = absurd (omega (arith, ap length e, length-append l (x ∷ [])))
last-same (a ∷ l) (b ∷ m) x y e =
    let first : a ≡ b = cc in
    let rest : l ++ (x ∷ []) ≡ m ++ (y ∷ []) = cc in
    let both = last-same l m x y rest in
    (ap₂ (λ (z : ℕ) (t : List ℕ). z ∷ t) first both.0, both.1)

some : (k n : ℕ) → 1 ≤ length (decimal_to (suc k) n)
unfolding decimal_to
some k n = by (ltb n 10)
  where
    by : (t : Bool) → 1 ≤ length (cond t ((48 + n) ∷ []) (decimal_to k (n / 10) ++ ((48 + n % 10) ∷ [])))
    by true = omega arith
    by false = omega (arith, length-append (decimal_to k (n / 10)) ((48 + n % 10) ∷ []))

some-tens : (k n : ℕ) → 10 ≤ n → n < 10 ^ suc k → 1 ≤ length (decimal_to k (n / 10))
some-tens zero n h l = absurd (omega arith)
some-tens (suc k) n h l = some k (n / 10)

pub decimal-same : (k n m : ℕ) → n < 10 ^ k → m < 10 ^ k → decimal_to k n ≡ decimal_to k m → n ≡ m
unfolding decimal_to
decimal-same zero n m hn hm e = omega arith
decimal-same (suc k) n m hn hm e =
    let step : 10 ^ suc k ≡ 10 ^ k * 10 = pow-suc 10 k in
    by (ltb n 10) (ltb m 10) refl refl e (λ t. decimal-same k (n / 10) (m / 10) (omega arith) (omega arith) t)
  where
    by : (t u : Bool) → ltb n 10 ≡ t → ltb m 10 ≡ u
        → cond t ((48 + n) ∷ []) (decimal_to k (n / 10) ++ ((48 + n % 10) ∷ [])) ≡ cond u ((48 + m) ∷ []) (decimal_to k (m / 10) ++ ((48 + m % 10) ∷ []))
        → (decimal_to k (n / 10) ≡ decimal_to k (m / 10) → n / 10 ≡ m / 10) → n ≡ m
    by true true p q e again = let z : 48 + n ≡ 48 + m = cc in omega arith
    by true false p q e again =
        absurd (omega (arith, ap length e, length-append (decimal_to k (m / 10)) ((48 + m % 10) ∷ []), some-tens k m (ltb-false m 10 q) hm))
    by false true p q e again =
        absurd (omega (arith, ap length e, length-append (decimal_to k (n / 10)) ((48 + n % 10) ∷ []), some-tens k n (ltb-false n 10 p) hn))
    by false false p q e again =
        let both = last-same (decimal_to k (n / 10)) (decimal_to k (m / 10)) (48 + n % 10) (48 + m % 10) e in
        omega (arith, both.1, again both.0)

-- ---- a number begins with a digit, 48 to 57

pub digit-first : (k n : ℕ) (rest : List ℕ) → get_or (decimal_to (suc k) n ++ rest) 0 0 < 58
unfolding decimal_to
digit-first zero n rest = by (ltb n 10) refl
  where
    by : (t : Bool) → ltb n 10 ≡ t → get_or (cond t ((48 + n) ∷ []) ((48 + n % 10) ∷ []) ++ rest) 0 0 < 58
    by true e = omega (arith, ltb-true n 10 e)
    by false e = omega arith
digit-first (suc k) n rest = by (ltb n 10) refl (digit-first k (n / 10) (((48 + n % 10) ∷ []) ++ rest))
  where
    by : (t : Bool) → ltb n 10 ≡ t → get_or (decimal_to (suc k) (n / 10) ++ (((48 + n % 10) ∷ []) ++ rest)) 0 0 < 58
        → get_or (cond t ((48 + n) ∷ []) (decimal_to (suc k) (n / 10) ++ ((48 + n % 10) ∷ [])) ++ rest) 0 0 < 58
    by true e h = omega (arith, ltb-true n 10 e)
    by false e h = rw append_assoc h

-- ---- equal texts have equal bytes

pub text_same : (a b : List ℕ) → text_of a ≡ text_of b → a ≡ b
unfolding text_of
text_same a b e =
    sym (take-append_seam a (zeros (256 - length a))) ∙ ap (λ (t : Text). take t.size t.bytes) e ∙ take-append_seam b (zeros (256 - length b))
