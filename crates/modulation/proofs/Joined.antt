-- Neighbouring ones, and windows of fifteen bits, of a list that is joined from two. Assumes nothing.
use mathlib.Core.List.{List, [], ◌∷◌, ◌++◌}
use mathlib.Core.Logic.{◌⊎◌, inl, inr}
use mathlib.Core.Path.{◌≡◌, sym, ap, ◌∙◌}
use Prim.Native.Nat.{ℕ, suc, ◌+◌, ◌-◌, ◌<◌, ◌≤◌}
use native.Mathlib.Decide.{dec_lt}
use native.Mathlib.Omega.{arith}
use lib.ListN.{length, get_or, take, drop, length-drop, get_or-append, get_or-eq_default}
use lib.Seq.{get_or-append-add, get_or-take, get_or-drop, take-append-le, drop-append-le, drop-append-add}
use Rattle.laws.proofs.Finite.{all, equal-below}
use Rattle.modulation.specs.Gaps.{Neighbours}

module _ (a t : List ℕ) where
  -- what stands at k of the joined list, behind a
  behind : (k : ℕ) → length a ≤ k → get_or (a ++ t) k 0 ≡ get_or t (k - length a) 0
  behind k h = ap (λ (p : ℕ). get_or (a ++ t) p 0) (same k h) ∙ get_or-append-add a t (k - length a) 0
    where
      same : (k : ℕ) → length a ≤ k → k ≡ length a + (k - length a)
      same k h = omega arith

  pub in-first : (i j : ℕ) → j < length a → Neighbours (a ++ t) i j → Neighbours a i j
  in-first i j h n =
      record {
        before = n.before;
        one-i = sym (get_or-append a t 0 i (omega (arith, n.before))) ∙ n.one-i;
        one-j = sym (get_or-append a t 0 j h) ∙ n.one-j;
        zeros = λ k p q. sym (get_or-append a t 0 k (omega arith)) ∙ n.zeros k p q;
      }

  pub in-second : (i j : ℕ) → length a ≤ i → Neighbours (a ++ t) i j → Neighbours t (i - length a) (j - length a)
  in-second i j h n =
      record {
        before = omega (arith, n.before);
        one-i = sym (behind i h) ∙ n.one-i;
        one-j = sym (behind j (omega (arith, n.before))) ∙ n.one-j;
        zeros = λ k p q. sym (get_or-append-add a t k 0) ∙ n.zeros (length a + k) (omega arith) (omega arith);
      }

  pub first-in : {i j : ℕ} → Neighbours a i j → Neighbours (a ++ t) i j
  first-in {i} {j} n =
      record {
        before = n.before;
        one-i = get_or-append a t 0 i (omega (arith, within)) ∙ n.one-i;
        one-j = get_or-append a t 0 j within ∙ n.one-j;
        zeros = λ k p q. get_or-append a t 0 k (omega (arith, within)) ∙ n.zeros k p q;
      }
    where
      within : j < length a
      within =
          elim (dec_lt j (length a)) [
            | yes h ↦ h
            | no h ↦ absurd (omega (arith, n.one-j, get_or-eq_default a 0 {n = j} (omega arith)))
          ]

  pub second-in : {i j : ℕ} → Neighbours t i j → Neighbours (a ++ t) (length a + i) (length a + j)
  second-in {i} {j} n =
      record {
        before = omega (arith, n.before);
        one-i = get_or-append-add a t i 0 ∙ n.one-i;
        one-j = get_or-append-add a t j 0 ∙ n.one-j;
        zeros = λ k p q. behind k (omega arith) ∙ n.zeros (k - length a) (omega arith) (omega arith);
      }

-- neighbours lie on one side of any one
pub one_side : (l : List ℕ) (p i j : ℕ) → get_or l p 0 ≡ 1 → Neighbours l i j → (j ≤ p) ⊎ (p ≤ i)
one_side l p i j e n =
    elim (dec_lt p j) [
      | yes h ↦
          elim (dec_lt i p) [
            | yes g ↦ absurd (omega (arith, n.zeros p g h))
            | no g ↦ inr (omega arith)
          ]
      | no h ↦ inl (omega arith)
    ]

-- neighbours between neighbours are these
pub between : (l : List ℕ) (p q i j : ℕ) → Neighbours l p q → Neighbours l i j → p ≤ i → j ≤ q → (i ≡ p) × (j ≡ q)
between l p q i j m n hi hj = (start, end)
  where
    start : i ≡ p
    start =
        elim (dec_lt p i) [
          | yes h ↦ absurd (omega (arith, n.one-i, m.zeros i h (omega (arith, n.before))))
          | no h ↦ omega arith
        ]

    end : j ≡ q
    end =
        elim (dec_lt j q) [
          | yes h ↦ absurd (omega (arith, n.one-j, m.zeros j (omega (arith, n.before)) h))
          | no h ↦ omega arith
        ]

-- ---- windows of fifteen bits

-- 101010101010101
abbrev pub seven : List ℕ
seven = 1 ∷ 0 ∷ 1 ∷ 0 ∷ 1 ∷ 0 ∷ 1 ∷ 0 ∷ 1 ∷ 0 ∷ 1 ∷ 0 ∷ 1 ∷ 0 ∷ 1 ∷ []

module _ (l : List ℕ) (i : ℕ) (e : take 15 (drop i l) ≡ seven) where
  window-at : (k : ℕ) → k < 15 → get_or l (i + k) 0 ≡ get_or seven k 0
  window-at k h = sym (get_or-drop i l k 0) ∙ sym (get_or-take 15 (drop i l) k 0 h) ∙ ap (λ (w : List ℕ). get_or w k 0) e

  -- no two zeros stand side by side in it
  pub no-two-zeros : (p : ℕ) → i ≤ p → p < i + 14 → get_or l p 0 ≡ 0 → get_or l (suc p) 0 ≡ 0 → ⊥
  unfolding all
  no-two-zeros p h g z y =
      omega (
        arith,
        equal-below 14 (λ k. get_or seven k 0 + get_or seven (suc k) 0) (λ k. 1) tt (p - i) (omega arith),
        window-at (p - i) (omega arith),
        window-at (suc (p - i)) (omega arith),
        ap (λ (k : ℕ). get_or l k 0) (here p h),
        ap (λ (k : ℕ). get_or l k 0) (next p h),
      )
    where
      here : (p : ℕ) → i ≤ p → i + (p - i) ≡ p
      here p h = omega arith

      next : (p : ℕ) → i ≤ p → i + suc (p - i) ≡ suc p
      next p h = omega arith

  -- it lies within the list
  pub window-within : i + 15 ≤ length l
  window-within =
      elim (dec_lt (i + 14) (length l)) [
        | yes h ↦ omega arith
        | no h ↦ absurd (omega (arith, window-at 14 (omega arith), get_or-eq_default l 0 {n = i + 14} (omega arith)))
      ]

pub window-first : (a t : List ℕ) (i : ℕ) → i + 15 ≤ length a → take 15 (drop i (a ++ t)) ≡ seven → take 15 (drop i a) ≡ seven
window-first a t i h e =
    sym (take-append-le 15 (drop i a) t (omega (arith, length-drop i a))) ∙ sym (ap (take 15) (drop-append-le i a t (omega arith))) ∙ e

pub window-second : (a t : List ℕ) (i : ℕ) → length a ≤ i → take 15 (drop i (a ++ t)) ≡ seven → take 15 (drop (i - length a) t) ≡ seven
window-second a t i h e = sym (ap (take 15) (ap (λ (k : ℕ). drop k (a ++ t)) (same i h) ∙ drop-append-add a t (i - length a))) ∙ e
  where
    same : (k : ℕ) → length a ≤ k → k ≡ length a + (k - length a)
    same k h = omega arith
