-- The order of the frame syncs (13.17.4): Figure 41 as printed, and what Figure 40 says of it, by a computed test. Assumes nothing.
use mathlib.Core.Bool.{Bool}
use mathlib.Core.List.{[], ◌∷◌, map}
use mathlib.Core.Logic.{◌↔◌}
use mathlib.Core.Path.{◌≡◌, refl, sym, ap, ap₂, ◌∙◌}
use Prim.Native.Nat.{ℕ, ◌+◌, ◌*◌, ◌-◌, ◌%◌, ◌<◌, ◌≤◌}
use native.Mathlib.Omega.{arith}
use borrow.Author.Tests.{eq-eqb}
use lib.Dec.{eqb, eqb→eq}
use lib.ListN.{get_or}
use Rattle.laws.proofs.Finite.{all, all₂, all₃, all-at, all₃-at}
use Rattle.modulation.specs.Sync.{FS, FS0, FS1, FS2, FS3, FS4, FS5, FS6, sync_numbers, sync_number}
use Rattle.laws.proofs.Booleans.{implies, given}

-- ---- Figure 41: frame 0, then on each line a frame and the one 15 behind it

pub figure-41 : sync_number 0 ∷ map sync_number (1 ∷ 16 ∷ 2 ∷ 17 ∷ 3 ∷ 18 ∷ 4 ∷ 19 ∷ 5 ∷ 20 ∷ 6 ∷ 21 ∷ 7 ∷ 22 ∷ 8 ∷ 23 ∷ 9 ∷ 24 ∷ 10 ∷ 25 ∷ 11 ∷ 26 ∷ 12 ∷ 27 ∷ 13 ∷ 28 ∷ 14 ∷ 29 ∷ 15 ∷ 30 ∷ [])
    ≡ FS0 ∷
    FS1 ∷ FS5 ∷
    FS2 ∷ FS3 ∷
    FS3 ∷ FS2 ∷
    FS3 ∷ FS2 ∷
    FS1 ∷ FS5 ∷
    FS4 ∷ FS6 ∷
    FS1 ∷ FS5 ∷
    FS5 ∷ FS1 ∷
    FS5 ∷ FS1 ∷
    FS4 ∷ FS6 ∷
    FS3 ∷ FS2 ∷
    FS4 ∷ FS6 ∷
    FS6 ∷ FS4 ∷
    FS6 ∷ FS4 ∷
    FS3 ∷ FS2 ∷ []
unfolding sync_number
figure-41 = refl

-- ---- Figure 40

abbrev number : FS → ℕ
number FS0 = 0
number FS1 = 1
number FS2 = 2
number FS3 = 3
number FS4 = 4
number FS5 = 5
number FS6 = 6

-- the syncs of frame n of an address unit and of the k-th frame before it, as a number
abbrev told : ℕ → ℕ → ℕ
told k n = 7 * number (get_or sync_numbers n FS0) + number (get_or sync_numbers ((n + 31 - k) % 31) FS0)

abbrev same : ℕ → ℕ → ℕ → Bool
same k m n = implies (eqb (told (k + 1) m) (told (k + 1) n)) (eqb m n)

told-once : (k m n : ℕ) → k < 4 → m < 31 → n < 31 → told (k + 1) m ≡ told (k + 1) n → m ≡ n
unfolding all all₂ all₃
told-once k m n hk hm hn e =
    eqb→eq m n (given (eqb (told (k + 1) m) (told (k + 1) n)) (eqb m n) (all₃-at 4 31 31 same tt k m n hk hm hn) (eq-eqb (told (k + 1) m) (told (k + 1) n) e))

-- A recording frame's place in its address unit is identified by its own frame sync and that of the frame 1, 2, 3 or 4 before it, so also
-- where the frame syncs of 1, 2 or 3 preceding frames are missing.
module _ (k m n : ℕ) (some : 1 ≤ k) (few : k ≤ 4) (hm : k ≤ m) (hn : k ≤ n) where
  pub identified : sync_number m ≡ sync_number n → sync_number (m - k) ≡ sync_number (n - k) → m % 31 ≡ n % 31
  unfolding sync_number
  identified own before =
      told-once (k - 1) (m % 31) (n % 31) (omega arith) (omega arith) (omega arith)
      (ap (λ (j : ℕ). told j (m % 31)) back
      ∙ ap₂ (λ (a b : FS). 7 * number a + number b) own (ap at (cyclic m hm) ∙ before ∙ ap at (sym (cyclic n hn)))
      ∙ ap (λ (j : ℕ). told j (n % 31)) (sym back))
    where
      at : ℕ → FS
      at i = get_or sync_numbers i FS0

      back : k - 1 + 1 ≡ k
      back = omega arith

      cyclic : (i : ℕ) → k ≤ i → (i % 31 + 31 - k) % 31 ≡ (i - k) % 31
      cyclic i h = omega arith

-- the first recording frame of each address unit has a unique frame sync
pub first-unique : (n : ℕ) → (sync_number n ≡ FS0) ↔ (n % 31 ≡ 0)
unfolding sync_number all
first-unique n = (only, λ e. ap (λ (i : ℕ). get_or sync_numbers i FS0) e)
  where
    only : sync_number n ≡ FS0 → n % 31 ≡ 0
    only e =
        eqb→eq (n % 31) 0
        (given (eqb (number (get_or sync_numbers (n % 31) FS0)) 0) (eqb (n % 31) 0)
        (all-at 31 (λ i. implies (eqb (number (get_or sync_numbers i FS0)) 0) (eqb i 0)) tt (n % 31) (omega arith))
        (eq-eqb (number (get_or sync_numbers (n % 31) FS0)) 0 (ap number e)))
