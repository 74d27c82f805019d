-- Runs of frames: their lengths, and each frame and sync at its place. Assumes nothing.
use mathlib.Core.Bool.{Bool, false}
use mathlib.Core.List.{List, ◌++◌, append_assoc}
use mathlib.Core.Path.{◌≡◌, refl, sym, ap, ◌∙◌}
use mathlib.Core.Logic.{⊎_elim}
use Prim.Native.Nat.{ℕ, zero, suc, ◌+◌, ◌*◌, ◌<◌, ◌≤◌}
use native.Mathlib.Nat.{not-suc-le-zero, le_of_suc-le-suc, eq-or-lt_of_le}
use native.Mathlib.Omega.{arith}
use lib.ListN.{length, take, drop, length-append}
use lib.Seq.{take_at, drop_at, take_all, take-take}
use Rattle.modulation.specs.Modulation.{Three, last_bit}
use Rattle.modulation.specs.Bits.{bits}
use Rattle.modulation.specs.Sync.{FS, FS0, FS1, FS2, FS3, FS4, FS5, FS6, sync, sync_id}
use Rattle.modulation.specs.Stream.{Recording, modulated, hash, recorded, run, stream, Full}
use Rattle.modulation.proofs.Bits.{length-bits, bits-take, bits-drop}
use Rattle.modulation.proofs.Size.{size}

pub length-sync_id : (n : FS) → length (sync_id n) ≡ 2
length-sync_id FS0 = refl
length-sync_id FS1 = refl
length-sync_id FS2 = refl
length-sync_id FS3 = refl
length-sync_id FS4 = refl
length-sync_id FS5 = refl
length-sync_id FS6 = refl

pub length-sync : (h : Bool) (n : FS) → length (sync h n) ≡ 10
length-sync h n = omega (arith, length-sync_id n)

pub full-less : (c : Recording) (n : ℕ) → Full c (suc n) → Full c n
full-less c n full k h = full k (omega arith)

pub length-recorded : (c : Recording) (k : ℕ) → length (c.frames k) ≡ 634 → length (recorded c k) ≡ 644
length-recorded c k e =
    omega (
      arith,
      length-append (sync (hash c k) (c.number k)) (modulated (c.number k) (c.frames k)).groups,
      length-sync (hash c k) (c.number k),
      size (last_bit false (sync_id (c.number k))) (c.frames k),
    )

pub length_run : (c : Recording) (n : ℕ) → Full c n → length (run c n) ≡ 644 * n
unfolding run
length_run c zero full = refl
length_run c (suc n) full =
    omega (arith, length-append (run c n) (recorded c n), length_run c n (full-less c n full), length-recorded c n (full n (omega arith)))

pub length-run-bits : (c : Recording) (n : ℕ) → Full c n → length (bits (run c n)) ≡ 1932 * n
length-run-bits c n full = omega (arith, length-bits (run c n), length_run c n full)

pub length-stream : (c : Recording) (n : ℕ) → Full c n → length (bits (stream c n)) ≡ 1932 * n + 30
length-stream c n full =
    omega (
      arith,
      length-bits (stream c n),
      length-append (run c n) (sync (hash c n) (c.number n)),
      length_run c n full,
      length-sync (hash c n) (c.number n),
    )

-- frame k of n, with its sync, whatever follows the n
pub frame_at : (c : Recording) (n k : ℕ) (t : List Three) → Full c n → k < n → take 644 (drop (644 * k) (run c n ++ t)) ≡ recorded c k
unfolding run
frame_at c zero k t full h = absurd (not-suc-le-zero h)
frame_at c (suc n) k t full h =
    ap (λ (l : List Three). take 644 (drop (644 * k) l)) (append_assoc (run c n) (recorded c n) t)
    ∙ ⊎_elim (λ e. last e) (λ l. frame_at c n k (recorded c n ++ t) (full-less c n full) l) (eq-or-lt_of_le (le_of_suc-le-suc h))
  where
    last : k ≡ n → take 644 (drop (644 * k) (run c n ++ (recorded c n ++ t))) ≡ recorded c k
    last e =
        ap (take 644) (drop_at (run c n) (recorded c n ++ t) (644 * k) (omega (arith, length_run c n (full-less c n full))))
        ∙ take_at (recorded c n) t 644 (length-recorded c n (full n (omega arith)))
        ∙ ap (recorded c) (sym e)

-- the sync of frame k of n, and the one that follows them
pub sync-at : (c : Recording) (n k : ℕ) → Full c n → k ≤ n → take 10 (drop (644 * k) (stream c n)) ≡ sync (hash c k) (c.number k)
sync-at c n k full h = ⊎_elim (λ e. last e) (λ l. inner l) (eq-or-lt_of_le h)
  where
    last : k ≡ n → take 10 (drop (644 * k) (stream c n)) ≡ sync (hash c k) (c.number k)
    last e =
        ap (take 10) (drop_at (run c n) (sync (hash c n) (c.number n)) (644 * k) (omega (arith, length_run c n full)))
        ∙ take_all 10 (sync (hash c n) (c.number n)) (omega (arith, length-sync (hash c n) (c.number n)))
        ∙ ap (λ (i : ℕ). sync (hash c i) (c.number i)) (sym e)

    inner : k < n → take 10 (drop (644 * k) (stream c n)) ≡ sync (hash c k) (c.number k)
    inner l =
        sym (take-take 10 644 (drop (644 * k) (stream c n)) (omega arith))
        ∙ ap (take 10) (frame_at c n k (sync (hash c n) (c.number n)) full l)
        ∙ take_at (sync (hash c k) (c.number k)) (modulated (c.number k) (c.frames k)).groups 10 (length-sync (hash c k) (c.number k))

-- the same of the bits: m groups from group g on
part-bits : (m g : ℕ) (ms : List Three) → take (3 * m) (drop (3 * g) (bits ms)) ≡ bits (take m (drop g ms))
part-bits m g ms = ap (take (3 * m)) (bits-drop g ms) ∙ bits-take m (drop g ms)

place : (k : ℕ) → 1932 * k ≡ 3 * (644 * k)
place k = omega arith

pub frame-bits : (c : Recording) (n k : ℕ) → Full c n → k < n → take 1932 (drop (1932 * k) (bits (stream c n))) ≡ bits (recorded c k)
frame-bits c n k full h =
    ap (λ (p : ℕ). take 1932 (drop p (bits (stream c n)))) (place k)
    ∙ part-bits 644 (644 * k) (stream c n)
    ∙ ap bits (frame_at c n k (sync (hash c n) (c.number n)) full h)

pub sync-bits : (c : Recording) (n k : ℕ) → Full c n → k ≤ n → take 30 (drop (1932 * k) (bits (stream c n))) ≡ bits (sync (hash c k) (c.number k))
sync-bits c n k full h =
    ap (λ (p : ℕ). take 30 (drop p (bits (stream c n)))) (place k) ∙ part-bits 10 (644 * k) (stream c n) ∙ ap bits (sync-at c n k full h)
