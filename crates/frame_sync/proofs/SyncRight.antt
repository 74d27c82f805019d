-- A frame sync compared group by group. Assumes nothing.
use mathlib.Core.Bool.{Bool, true, false}
use mathlib.Core.List.{List}
use mathlib.Core.Path.{◌≡◌, refl, sym, ap, ap₂, ◌∙◌}
use Prim.Native.Nat.{ℕ, ◌+◌, ◌*◌, ◌<◌, ◌≤◌}
use native.Mathlib.Nat.{not-suc-le-zero, add-zero}
use native.Mathlib.Omega.{arith}
use borrow.Author.Count.{below_more}
use lib.Dec.{eqb}
use lib.ListN.{get_or, take, drop}
use lib.Seq.{ext_get_or, get_or-take, get_or-drop}
use Rattle.bits.specs.Bits.{bits_of, number}
use Rattle.bits.specs.Step.{step_at}
use Rattle.bits.specs.declared.Step.{Step}
use Rattle.bits.proofs.Bits.{length-bits as length-bits_of, bits-bits}
use Rattle.modulation.specs.Modulation.{Three, m000, three_number}
use Rattle.modulation.specs.Bits.{bits}
use Rattle.modulation.specs.Sync.{FS, sync}
use Rattle.modulation.proofs.Bits.{bits-injective}
use Rattle.modulation.proofs.Fronts.{three-injective}
use Rattle.modulation.proofs.Streams.{length-sync}
use Rattle.modulation.specs.steps.Groups.{Inside, groups_at}
use Rattle.modulation.proofs.Groups.{length-groups_at, bits-groups_at, group-read}
use Rattle.frame_sync.specs.Sync.{group_of, hash_at, sync_right}
use Rattle.laws.specs.Same.{same}
use Rattle.laws.proofs.Same.{same_true, same_refl}
use Rattle.frame_sync.proofs.SyncTables.{sync_group, group_at}

-- ---- what is compared

module _ (n : FS) (b : List ℕ) (at : ℕ) where
  -- the sync that stands there
  pub sync-as-read : sync_right n b at ≡ true → take 30 (drop at b) ≡ bits (sync (hash_at b at) n)
  unfolding sync_right
  sync-as-read e = same_true (take 30 (drop at b)) (bits (sync (hash_at b at) n)) e

  first_bit : (hash : Bool) → eqb (get_or (bits (sync hash n)) 0 0) 1 ≡ hash
  first_bit true = refl
  first_bit false = refl

  -- # is its first bit
  pub hash-as-read : (hash : Bool) → take 30 (drop at b) ≡ bits (sync hash n) → hash_at b at ≡ hash
  hash-as-read hash e =
      let there = get_or-take 30 (drop at b) 0 0 (omega arith) ∙ get_or-drop at b 0 0 ∙ ap (λ (k : ℕ). get_or b k 0) (add-zero at) in
      ap (λ (x : ℕ). eqb x 1) (sym there ∙ ap (λ (m : List ℕ). get_or m 0 0) e) ∙ first_bit hash

  pub sync-is-right : (hash : Bool) → take 30 (drop at b) ≡ bits (sync hash n) → sync_right n b at ≡ true
  unfolding sync_right
  sync-is-right hash e = ap₂ same e (ap (λ (h : Bool). bits (sync h n)) (hash-as-read hash e)) ∙ same_refl (bits (sync hash n))

-- the same, group by group
module _ (n : FS) (hash : Bool) (l : List ℕ) (at : ℕ) (h : Inside l at 10) where
  there : bits (groups_at (bits_of l) at 10) ≡ take 30 (drop at (bits_of l))
  there = bits-groups_at (bits_of l) at 10 (bits-bits l) (omega (arith, length-bits_of l, h.enough))

  pub groups-right : groups_at (bits_of l) at 10 ≡ sync hash n → take 30 (drop at (bits_of l)) ≡ bits (sync hash n)
  groups-right e = sym there ∙ ap bits e

  pub right-groups : take 30 (drop at (bits_of l)) ≡ bits (sync hash n) → groups_at (bits_of l) at 10 ≡ sync hash n
  right-groups e = bits-injective (groups_at (bits_of l) at 10) (sync hash n) (there ∙ e)

-- ---- the loop

-- the first j groups are those of the sync, whose bits make `word`
pub record Agrees (n : FS) (hash : Bool) (l : List ℕ) (at word j : ℕ) : Type 0 where
  pub word-is : word ≡ number (bits (sync hash n))
  pub within : j ≤ 10
  pub inside : Inside l at 10
  pub groups : (i : ℕ) → i < j → three_number (get_or (groups_at (bits_of l) at 10) i m000) ≡ sync_group n hash i

pub agrees-none : {n : FS} {hash : Bool} {l : List ℕ} {at word : ℕ} → word ≡ number (bits (sync hash n)) → Inside l at 10 → Agrees n hash l at word 0
agrees-none e h = record { word-is = e; within = omega arith; inside = h; groups = λ i lt. absurd (not-suc-le-zero lt) }

module _ {n : FS} {hash : Bool} {l : List ℕ} {at word j v : ℕ} {s : Step} (u : Agrees n hash l at word j) (h : j < 10) (e : s ≡ step_at (bits_of l) (at + 3 * j)) (is : v ≡ group_of word j) where
  wanted : v ≡ sync_group n hash j
  wanted = group_at hash n j word v h u.word-is is

  read : s.value ≡ three_number (get_or (groups_at (bits_of l) at 10) j m000)
  read = (group-read j e u.inside h).0

  pub agrees-more : s.value ≡ v → Agrees n hash l at word (j + 1)
  agrees-more same = record { word-is = u.word-is; within = omega arith; inside = u.inside; groups = below_more _ j u.groups (sym read ∙ same ∙ wanted) }

  pub agrees-not : (s.value ≡ v → ⊥) → hash ≡ hash_at (bits_of l) at → false ≡ sync_right n (bits_of l) at
  unfolding sync_group
  agrees-not other eh = go (sync_right n (bits_of l) at) refl
    where
      go : (t : Bool) → sync_right n (bits_of l) at ≡ t → false ≡ sync_right n (bits_of l) at
      go false t = sym t
      go true t =
          absurd
          (other
          (read
          ∙ ap (λ (ms : List Three). three_number (get_or ms j m000))
          (right-groups n hash l at u.inside (sync-as-read n (bits_of l) at t ∙ ap (λ (x : Bool). bits (sync x n)) (sym eh)))
          ∙ sym wanted))

pub agrees-all : {n : FS} {hash : Bool} {l : List ℕ} {at word j : ℕ} → Agrees n hash l at word j → 10 ≤ j → true ≡ sync_right n (bits_of l) at
unfolding sync_group
agrees-all {n} {hash} {l} {at} {word} {j} u h = sym (sync-is-right n (bits_of l) at hash (groups-right n hash l at u.inside same-groups))
  where
    same-groups : groups_at (bits_of l) at 10 ≡ sync hash n
    same-groups =
        ext_get_or m000 (groups_at (bits_of l) at 10) (sync hash n) (length-groups_at (bits_of l) at 10 ∙ sym (length-sync hash n))
        (λ i lt. three-injective _ _ (u.groups i (omega (arith, length-groups_at (bits_of l) at 10))))
