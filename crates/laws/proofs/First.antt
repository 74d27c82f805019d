-- A search from the front for the lowest index at which a test holds. Assumes nothing.
use mathlib.Core.Path.{◌≡◌, refl, sym, ap, ap₂, ◌∙◌}
use mathlib.Core.Bool.{Bool, true, false, cond}
use Prim.Native.Nat.{ℕ, zero, suc, ◌+◌, ◌-◌, ◌<◌, ◌≤◌}
use native.Mathlib.Nat.{not-suc-le-zero, le_of_suc-le-suc}
use native.Mathlib.Decide.{dec_lt}
use native.Mathlib.Omega.{arith}
use borrow.Author.Count.{below_more}
use Rattle.laws.specs.First.{first}

-- p holds at no index below i
pub record Passed (p : ℕ → Bool) (i : ℕ) : Type 0 where
  pub fails : (k : ℕ) → k < i → p k ≡ false

pub passed_none : {p : ℕ → Bool} → Passed p 0
passed_none = record { fails = λ k h. absurd (not-suc-le-zero h) }

pub passed-more : {p : ℕ → Bool} {i : ℕ} → Passed p i → p i ≡ false → Passed p (i + 1)
passed-more {p} {i} a e = record { fails = below_more (λ k. p k ≡ false) i a.fails e }

pub first-at : (n : ℕ) (p : ℕ → Bool) (i : ℕ) → i < n → Passed p i → p i ≡ true → first n p ≡ i
unfolding first
first-at zero p i h a e = absurd (not-suc-le-zero h)
first-at (suc n) p zero h a e = simp e
first-at (suc n) p (suc i) h a e =
    simp (a.fails zero (omega arith))
    (ap suc (first-at n (λ k. p (suc k)) i (le_of_suc-le-suc h) (record { fails = λ k l. a.fails (suc k) (omega arith) }) e))

pub first-none : (n : ℕ) (p : ℕ → Bool) → Passed p n → first n p ≡ n
unfolding first
first-none zero p a = refl
first-none (suc n) p a =
    simp (a.fails zero (omega arith))
    (ap suc (first-none n (λ k. p (suc k)) (record { fails = λ k l. a.fails (suc k) (omega arith) })))

-- ---- as a loop has it

module _ {p : ℕ → Bool} {n i : ℕ} where
  pub first-here : i < n → Passed p i → p i ≡ true → i ≡ first n p
  first-here h passed e = sym (first-at n p i h passed e)

  pub first_past : n ≤ i → Passed p i → n ≡ first n p
  first_past h passed = sym (first-none n p (record { fails = λ k lt. passed.fails k (omega arith) }))

-- a search that comes to its end has found nothing
pub first-all : (n : ℕ) (p : ℕ → Bool) → n ≤ first n p → (k : ℕ) → k < n → p k ≡ false
unfolding first
first-all zero p h k lt = absurd (not-suc-le-zero lt)
first-all (suc n) p h k lt = by (p zero) refl h k lt (λ l. first-all n (λ k. p (suc k)) l)
  where
    by : (b : Bool) → p zero ≡ b → suc n ≤ cond b zero (suc (first n (λ k. p (suc k)))) → (k : ℕ) → k < suc n
        → (n ≤ first n (λ k. p (suc k)) → (k : ℕ) → k < n → p (suc k) ≡ false) → p k ≡ false
    by true e l k lt rest = absurd (not-suc-le-zero l)
    by false e l zero lt rest = e
    by false e l (suc k) lt rest = rest (le_of_suc-le-suc l) k (le_of_suc-le-suc lt)

-- ---- a search in parts

-- what is found is the lowest: the test holds there, and nowhere below
pub first_holds : (n : ℕ) (p : ℕ → Bool) → first n p < n → (p (first n p) ≡ true) × Passed p (first n p)
unfolding first
first_holds zero p h = absurd (not-suc-le-zero h)
first_holds (suc n) p h = by (p zero) refl h (λ l. first_holds n (λ k. p (suc k)) l)
  where
    rest : ℕ
    rest = first n (λ k. p (suc k))

    by : (b : Bool) → p zero ≡ b → cond b zero (suc rest) < suc n → (rest < n → (p (suc rest) ≡ true) × Passed (λ k. p (suc k)) rest)
        → (p (cond b zero (suc rest)) ≡ true) × Passed p (cond b zero (suc rest))
    by true e l more = (e, passed_none)
    by false e l more = let found = more (le_of_suc-le-suc l) in (found.0, record { fails = below found.1 })
      where
        below : Passed (λ k. p (suc k)) rest → (k : ℕ) → k < suc rest → p k ≡ false
        below passed zero lt = e
        below passed (suc k) lt = passed.fails k (le_of_suc-le-suc lt)

-- from a on, m at a time
module _ {p : ℕ → Bool} (a m r : ℕ) (passed : Passed p a) (e : r ≡ first m (λ k. p (a + k))) where
  at_part : (k : ℕ) → a ≤ k → p k ≡ p (a + (k - a))
  at_part k h = ap p (omega arith)

  pub first-in-part : (n : ℕ) → a + m ≤ n → r < m → a + r ≡ first n p
  first-in-part n h lt = first-here (omega arith) (record { fails = below }) (ap (λ (k : ℕ). p (a + k)) e ∙ found.0)
    where
      found : (p (a + first m (λ k. p (a + k))) ≡ true) × Passed (λ k. p (a + k)) (first m (λ k. p (a + k)))
      found = first_holds m (λ k. p (a + k)) (omega arith)

      below : (k : ℕ) → k < a + r → p k ≡ false
      below k lt = elim (dec_lt k a) [ yes l ↦ passed.fails k l | no l ↦ at_part k (omega arith) ∙ found.1.fails (k - a) (omega arith) ]

  pub passed-part : m ≤ r → Passed p (a + m)
  passed-part h = record { fails = below }
    where
      below : (k : ℕ) → k < a + m → p k ≡ false
      below k lt = elim (dec_lt k a) [ yes l ↦ passed.fails k l | no l ↦ at_part k (omega arith) ∙ first-all m (λ k. p (a + k)) (omega arith) (k - a) (omega arith) ]

-- two tests that agree below n
pub first-ext : (n : ℕ) (p q : ℕ → Bool) → ((k : ℕ) → k < n → p k ≡ q k) → first n p ≡ first n q
unfolding first
first-ext zero p q agree = refl
first-ext (suc n) p q agree =
    ap₂ (λ (b : Bool) (k : ℕ). cond b zero (suc k)) (agree zero (omega arith)) (first-ext n (λ k. p (suc k)) (λ k. q (suc k)) (λ k h. agree (suc k) (omega arith)))

-- a search that comes to its end comes there exactly
pub ended : (n : ℕ) (p : ℕ → Bool) → n ≤ first n p → first n p ≡ n
ended n p h = first-none n p (record { fails = first-all n p h })
