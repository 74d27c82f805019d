-- Test 10, sync by sync, and # of the first. Assumes nothing.
use mathlib.Core.Path.{◌≡◌, sym, ap, ◌∙◌}
use mathlib.Core.Bool.{Bool, true, false, ◌&&◌, not}
use mathlib.Core.List.{List}
use Prim.Native.Nat.{ℕ, ◌+◌, ◌*◌}
use native.Mathlib.Omega.{arith}
use lib.ListN.{drop}
use Rattle.answer.specs.declared.Answer.{Answer}
use Rattle.answer.specs.Answer.{is_done}
use Rattle.modulation.specs.Sync.{FS, sync_number}
use Rattle.frame_sync.specs.Sync.{fs, fs_number, hash_at, sync_right}
use Rattle.frame_sync.proofs.SyncTables.{fs-number}
use Rattle.recording.specs.Reading.{wrong_sync, first_hash}
use Rattle.recording.proofs.Places.{hash-behind, sync-behind}

-- ---- bits b, in which the recording starts at bit `at`

pub sync-judged : (b : List ℕ) (at n number : ℕ) (r t : Bool) → number ≡ fs_number (sync_number n) → r ≡ sync_right (fs number) b (at + 1932 * n) → not r ≡ t → wrong_sync (drop at b) n ≡ t
unfolding wrong_sync
sync-judged b at n number r t is judged f =
    ap not (sync-behind b at (1932 * n) (sync_number n))
    ∙ sym (ap not (judged ∙ ap (λ (x : FS). sync_right x b (at + 1932 * n)) (ap fs is ∙ fs-number (sync_number n))))
    ∙ f

-- d is whether an answer is `Done`
module _ (b : List ℕ) (at : ℕ) (a : Answer) (d : Bool) (ed : d ≡ is_done a) where
  pub hash-read : (h : Bool) → d ≡ true → h ≡ hash_at b at → h ≡ (is_done a && first_hash (drop at b))
  hash-read h t e =
      let place : at + 0 ≡ at = omega arith in
      e ∙ sym (hash-behind b at 0 ∙ ap (hash_at b) place) ∙ ap (λ (x : Bool). x && first_hash (drop at b)) (sym t ∙ ed)

  pub hash-refused : d ≡ false → false ≡ (is_done a && first_hash (drop at b))
  hash-refused f = ap (λ (x : Bool). x && first_hash (drop at b)) (sym f ∙ ed)
