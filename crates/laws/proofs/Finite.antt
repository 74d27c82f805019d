-- A fact of every number below a bound, by a test that is computed. Assumes nothing.
use mathlib.Core.Path.{◌≡◌, sym, subst}
use mathlib.Core.Logic.{⊎_elim}
use mathlib.Core.Bool.{Bool, true, false}
use Prim.Native.Nat.{ℕ, zero, suc, ◌<◌}
use native.Mathlib.Nat.{not-suc-le-zero, le_of_suc-le-suc, eq-or-lt_of_le}
use lib.Dec.{T, eqb, eqb→eq, ltb, ltb→lt}

abbrev pub both : Bool → Bool → Bool
both true b = b
both false b = false

pub both_left : (a b : Bool) → T (both a b) → T a
both_left true b t = tt
both_left false b t = absurd t

pub both_right : (a b : Bool) → T (both a b) → T b
both_right true b t = t
both_right false b t = absurd t

-- p holds of every number below n
unfoldable pub all : ℕ → (ℕ → Bool) → Bool
all zero p = true
all (suc n) p = both (p n) (all n p)

pub all-at : (n : ℕ) (p : ℕ → Bool) → T (all n p) → (k : ℕ) → k < n → T (p k)
unfolding all
all-at zero p t k h = absurd (not-suc-le-zero h)
all-at (suc n) p t k h =
    ⊎_elim (λ e. subst (λ (m : ℕ). T (p m)) (sym e) (both_left (p n) (all n p) t)) (λ l. all-at n p (both_right (p n) (all n p) t) k l) (eq-or-lt_of_le (le_of_suc-le-suc h))

-- p holds of every pair of numbers below m and n
unfoldable pub all₂ : ℕ → ℕ → (ℕ → ℕ → Bool) → Bool
all₂ m n p = all m (λ a. all n (p a))

pub all₂-at : (m n : ℕ) (p : ℕ → ℕ → Bool) → T (all₂ m n p) → (a b : ℕ) → a < m → b < n → T (p a b)
unfolding all₂
all₂-at m n p t a b ha hb = all-at n (p a) (all-at m (λ a. all n (p a)) t a ha) b hb

-- p holds of every three numbers below l, m and n
unfoldable pub all₃ : ℕ → ℕ → ℕ → (ℕ → ℕ → ℕ → Bool) → Bool
all₃ l m n p = all l (λ a. all₂ m n (p a))

pub all₃-at : (l m n : ℕ) (p : ℕ → ℕ → ℕ → Bool) → T (all₃ l m n p) → (a b c : ℕ) → a < l → b < m → c < n → T (p a b c)
unfolding all₃
all₃-at l m n p t a b c ha hb hc = all₂-at m n (p a) (all-at l (λ a. all₂ m n (p a)) t a ha) b c hb hc

-- two functions that agree below n
pub equal-below : (n : ℕ) (f g : ℕ → ℕ) → T (all n (λ k. eqb (f k) (g k))) → (k : ℕ) → k < n → f k ≡ g k
equal-below n f g t k h = eqb→eq (f k) (g k) (all-at n (λ k. eqb (f k) (g k)) t k h)

-- a function that stays below a bound
pub bounded-below : (n bound : ℕ) (f : ℕ → ℕ) → T (all n (λ k. ltb (f k) bound)) → (k : ℕ) → k < n → f k < bound
bounded-below n bound f t k h = ltb→lt (f k) bound (all-at n (λ k. ltb (f k) bound) t k h)

-- the same in two arguments
pub equal-below₂ : (m n : ℕ) (f g : ℕ → ℕ → ℕ) → T (all₂ m n (λ a b. eqb (f a b) (g a b))) → (a b : ℕ) → a < m → b < n → f a b ≡ g a b
equal-below₂ m n f g t a b ha hb = eqb→eq (f a b) (g a b) (all₂-at m n (λ a b. eqb (f a b) (g a b)) t a b ha hb)

pub bounded-below₂ : (m n bound : ℕ) (f : ℕ → ℕ → ℕ) → T (all₂ m n (λ a b. ltb (f a b) bound)) → (a b : ℕ) → a < m → b < n → f a b < bound
bounded-below₂ m n bound f t a b ha hb = ltb→lt (f a b) bound (all₂-at m n (λ a b. ltb (f a b) bound) t a b ha hb)
