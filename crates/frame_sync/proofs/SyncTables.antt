-- The code's tables are those of Figures 39 and 41. Assumes nothing.
use mathlib.Core.Path.{◌≡◌, refl, sym, ap, subst, ◌∙◌}
use mathlib.Core.Bool.{Bool, true, false, beq}
use mathlib.Core.List.{List, [], ◌∷◌}
use Prim.Native.Nat.{ℕ, ◌+◌, ◌%◌, ◌^◌, ◌<◌}
use native.Mathlib.Nat.{mod-lt, zero-lt-suc}
use native.Mathlib.Omega.{arith}
use lib.Dec.{eqb, lit<}
use lib.ListN.{length, get_or}
use Rattle.laws.proofs.Finite.{all, all-at, all₂, equal-below, equal-below₂, bounded-below}
use Rattle.bits.specs.Bits.{number, bits_of_number}
use Rattle.bits.proofs.Number.{number_lt, bits-of-number}
use Rattle.modulation.specs.Modulation.{m000, three_number, last_bit}
use Rattle.modulation.specs.Bits.{bits}
use Rattle.modulation.specs.Sync.{FS, FS0, FS1, FS2, FS3, FS4, FS5, FS6, sync, sync_id, sync_numbers, sync_number}
use Rattle.modulation.proofs.Bits.{length-bits}
use Rattle.modulation.proofs.Fronts.{bits-groups}
use Rattle.modulation.proofs.Streams.{length-sync}
use Rattle.laws.proofs.Booleans.{beq_same}
use Rattle.frame_sync.specs.Sync.{fs, fs_number, group_of}

-- ---- Figure 41

abbrev pub number_table : List ℕ
number_table =
    0 ∷ 1 ∷ 2 ∷ 3 ∷ 3 ∷ 1 ∷ 4 ∷ 1 ∷ 5 ∷ 5 ∷ 4 ∷ 3 ∷ 4 ∷ 6 ∷ 6 ∷ 3 ∷ 5 ∷ 3 ∷ 2 ∷ 2 ∷ 5 ∷ 6 ∷ 5 ∷ 1 ∷ 1 ∷ 6 ∷ 2 ∷ 6 ∷ 4 ∷ 4 ∷ 2 ∷ []

pub number_at : (n : ℕ) → (get_or number_table (n % 31) 0 ≡ fs_number (sync_number n)) × (get_or number_table (n % 31) 0 < 7)
unfolding all sync_number
number_at n = (
  equal-below 31 (λ k. get_or number_table k 0) (λ k. fs_number (get_or sync_numbers k FS0)) tt (n % 31) (mod-lt n (zero-lt-suc 30)),
  bounded-below 31 7 (λ k. get_or number_table k 0) tt (n % 31) (mod-lt n (zero-lt-suc 30)),
)

-- a sync is that of its number
pub fs-number : (n : FS) → fs (fs_number n) ≡ n
unfolding fs
fs-number FS0 = refl
fs-number FS1 = refl
fs-number FS2 = refl
fs-number FS3 = refl
fs-number FS4 = refl
fs-number FS5 = refl
fs-number FS6 = refl

pub fs-below : (n : FS) → fs_number n < 7
fs-below FS0 = lit< tt
fs-below FS1 = lit< tt
fs-below FS2 = lit< tt
fs-below FS3 = lit< tt
fs-below FS4 = lit< tt
fs-below FS5 = lit< tt
fs-below FS6 = lit< tt

-- ---- Figure 39

abbrev pub id_table : List ℕ
id_table = 0b000_001 ∷ 0b010_010 ∷ 0b101_000 ∷ 0b100_001 ∷ 0b000_100 ∷ 0b001_001 ∷ 0b010_000 ∷ []

pub id-small : (n : ℕ) → n < 7 → get_or id_table n 0 < 64
unfolding all
id-small n h = bounded-below 7 64 (λ n. get_or id_table n 0) tt n h

-- the bit behind which the frame's first word stands
pub end-at : (number : ℕ) → number < 7 → eqb (get_or id_table number 0 % 2) 1 ≡ last_bit false (sync_id (fs number))
unfolding all fs
end-at number h = beq_same _ _ (all-at 7 (λ k. beq (eqb (get_or id_table k 0 % 2) 1) (last_bit false (sync_id (fs k)))) tt number h)

-- ---- a frame sync as a number of 30 bits

-- the body, with # ZERO and ONE, and the ID
pub sync-zero : (n : ℕ) → n < 7 → 0b001_010_000_000_010_000_000_010_000_000 + get_or id_table n 0 ≡ number (bits (sync false (fs n)))
unfolding all fs number
sync-zero n h = equal-below 7 (λ n. 0b001_010_000_000_010_000_000_010_000_000 + get_or id_table n 0) (λ n. number (bits (sync false (fs n)))) tt n h

pub sync-one : (n : ℕ) → n < 7 → 0b101_010_000_000_010_000_000_010_000_000 + get_or id_table n 0 ≡ number (bits (sync true (fs n)))
unfolding all fs number
sync-one n h = equal-below 7 (λ n. 0b101_010_000_000_010_000_000_010_000_000 + get_or id_table n 0) (λ n. number (bits (sync true (fs n)))) tt n h

-- its groups, each as a number
unfoldable pub sync_group : FS → Bool → ℕ → ℕ
sync_group n hash j = three_number (get_or (sync hash n) j m000)

of_number : (hash : Bool) (k j : ℕ) → k < 7 → j < 10 → group_of (number (bits (sync hash (fs k)))) j ≡ sync_group (fs k) hash j
unfolding all all₂ fs number sync_group
of_number true k j hk hj = equal-below₂ 7 10 (λ k j. group_of (number (bits (sync true (fs k)))) j) (λ k j. sync_group (fs k) true j) tt k j hk hj
of_number false k j hk hj = equal-below₂ 7 10 (λ k j. group_of (number (bits (sync false (fs k)))) j) (λ k j. sync_group (fs k) false j) tt k j hk hj

pub group_at : (hash : Bool) (n : FS) (j word v : ℕ) → j < 10 → word ≡ number (bits (sync hash n)) → v ≡ group_of word j → v ≡ sync_group n hash j
group_at hash n j word v h e is =
    is ∙ ap (λ (w : ℕ). group_of w j) e ∙ subst (λ (m : FS). group_of (number (bits (sync hash m))) j ≡ sync_group m hash j) (fs-number n) (of_number hash (fs_number n) j (fs-below n) h)

-- its bits, and how large it is
module _ (hash : Bool) (n : FS) where
  pub length-sync-bits : length (bits (sync hash n)) ≡ 30
  length-sync-bits = omega (arith, length-bits (sync hash n), length-sync hash n)

  pub sync-bits : bits_of_number 30 (number (bits (sync hash n))) ≡ bits (sync hash n)
  sync-bits = ap (λ (k : ℕ). bits_of_number k (number (bits (sync hash n)))) (sym length-sync-bits) ∙ bits-of-number (bits (sync hash n)) (bits-groups (sync hash n))

  pub sync-small : number (bits (sync hash n)) < 2 ^ 30
  sync-small = subst (λ (k : ℕ). number (bits (sync hash n)) < 2 ^ k) length-sync-bits (number_lt (bits (sync hash n)) (bits-groups (sync hash n)))

-- its last bit is the ID's
pub sync-odd : (hash : Bool) (n : ℕ) → n < 7 → eqb (number (bits (sync hash (fs n))) % 2) 1 ≡ last_bit false (sync_id (fs n))
unfolding all fs number
sync-odd true n h =
    beq_same _ _ (all-at 7 (λ k. beq (eqb (number (bits (sync true (fs k))) % 2) 1) (last_bit false (sync_id (fs k)))) tt n h)
sync-odd false n h =
    beq_same _ _ (all-at 7 (λ k. beq (eqb (number (bits (sync false (fs k))) % 2) 1) (last_bit false (sync_id (fs k)))) tt n h)
