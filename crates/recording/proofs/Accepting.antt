-- Bits that pass tests 10 and 11 are the recording of what is read in them. Assumes nothing.
use mathlib.Core.Path.{◌≡◌, refl, sym, ap, ap₂, ◌∙◌}
use mathlib.Core.Bool.{Bool, true, false}
use mathlib.Core.List.{List, ◌++◌}
use Prim.Native.Nat.{ℕ, zero, suc, ◌+◌, ◌*◌, ◌/◌, ◌%◌, ◌<◌, ◌≤◌}
use native.Mathlib.Numerals.{add-one}
use native.Mathlib.Omega.{arith}
use borrow.Author.Tests.{not-false}
use lib.ListN.{length, get_or, take, drop}
use lib.Seq.{ext_get_or, get_or-take, get_or-drop, take-add}
use Rattle.laws.specs.Bytes.{Bytes}
use Rattle.laws.proofs.First.{first-all}
use Rattle.laws.proofs.Bytes.{bytes-tabulate}
use Rattle.laws.proofs.Tabulate.{length-tabulate, get_d_tabulate}
use Rattle.modulation.specs.Bits.{bits}
use Rattle.modulation.specs.Sync.{sync, sync_number}
use Rattle.modulation.specs.Stream.{Recording, hash, recorded, run, stream}
use Rattle.modulation.proofs.Bits.{bits-append}
use Rattle.frame_bits.specs.FrameBits.{row_from}
use Rattle.frame.specs.Frame.{frame}
use Rattle.frame_sync.specs.Sync.{hash_at, sync_right}
use Rattle.frame.specs.Reading.{RowGives, readable}
use Rattle.frame.proofs.Frame.{frame-as-read}
use Rattle.frame.proofs.Reading.{bits-row, readable-gives}
use Rattle.frame_sync.proofs.SyncRight.{sync-as-read}
use Rattle.cluster.specs.EccCluster as Ecc
use Rattle.cluster.proofs.Rows.{length-row}
use Rattle.recording.specs.Recording.{recording_of}
use Rattle.recording.specs.Reading.{wrong_sync, first_wrong_sync, first_hash, modulated_at, hash_behind, no_frame, first_no_frame, frame_bits_in, cluster_byte, cluster_in, dc_word_in, dc_in}

-- what is no refusal of test 11
pub readable-is : (b : List ℕ) (n : ℕ) → no_frame b n ≡ false → readable (sync_number n) (modulated_at b n) (hash_behind b n) ≡ true
unfolding no_frame
readable-is b n e = not-false (readable (sync_number n) (modulated_at b n) (hash_behind b n)) e

-- tests 10 and 11 are passed by the bits b
pub record Passes (b : List ℕ) : Type 0 where
  pub syncs : 497 ≤ first_wrong_sync b
  pub frames : 496 ≤ first_no_frame b

module _ (b : List ℕ) (passes : Passes b) where
  abbrev work : List ℕ
  work = cluster_in b

  abbrev dc : List ℕ
  dc = dc_in b

  abbrev c : Recording
  c = recording_of (first_hash b) work dc

  -- ---- syncs

  right : (n : ℕ) → n < 497 → sync_right (sync_number n) b (1932 * n) ≡ true
  unfolding first_wrong_sync wrong_sync
  right n h = not-false _ (first-all 497 (wrong_sync b) passes.syncs n h)

  -- ---- rows and dc words

  gives : (n : ℕ) → n < 496 → RowGives (sync_number n) (row_from (frame_bits_in b n)) (dc_word_in b n) (modulated_at b n) (hash_behind b n)
  unfolding first_no_frame
  gives n h = bits-row (readable-gives (sync_number n) (modulated_at b n) (hash_behind b n) (readable-is b n (first-all 496 (no_frame b) passes.frames n h)))

  pub length-work : length work ≡ 76880
  unfolding cluster_in
  length-work = length-tabulate 76880 (cluster_byte b)

  pub bytes-work : Bytes work
  unfolding cluster_in
  bytes-work = bytes-tabulate 76880 (cluster_byte b) (λ k h. (gives (k / 155) (omega arith)).bytes (k % 155))

  row-there : (n : ℕ) → n < 496 → Ecc.row_of work n ≡ row_from (frame_bits_in b n)
  unfolding cluster_in
  row-there n h =
      ext_get_or 0 (Ecc.row_of work n) (row_from (frame_bits_in b n)) (length-row work length-work n h ∙ sym (gives n h).size) (λ k l. byte k (omega (arith, length-row work length-work n h)))
    where
      byte : (k : ℕ) → k < 155 → get_or (Ecc.row_of work n) k 0 ≡ get_or (row_from (frame_bits_in b n)) k 0
      byte k l =
          let row : (155 * n + k) / 155 ≡ n = omega arith in
          let column : (155 * n + k) % 155 ≡ k = omega arith in
          get_or-take 155 (drop (155 * n) work) k 0 l
          ∙ get_or-drop (155 * n) work k 0
          ∙ get_d_tabulate 76880 (cluster_byte b) (155 * n + k) 0 (omega arith)
          ∙ ap₂ (λ (i j : ℕ). get_or (row_from (frame_bits_in b i)) j 0) row column

  pub length-dc : length dc ≡ 496
  unfolding dc_in
  length-dc = length-tabulate 496 (dc_word_in b)

  dc-there : (n : ℕ) → n < 496 → get_or dc n 0 ≡ dc_word_in b n
  unfolding dc_in
  dc-there n h = get_d_tabulate 496 (dc_word_in b) n 0 h

  pub dc-small : (n : ℕ) → n < 496 → get_or dc n 0 ≤ 0x0FFF_FFFF
  dc-small n h = omega (arith, dc-there n h, (gives n h).small)

  given : (n : ℕ) → n < 496 → RowGives (sync_number n) (Ecc.row_of work n) (get_or dc n 0) (modulated_at b n) (hash_behind b n)
  given n h = rw (row-there n h, dc-there n h) (gives n h)

  -- ---- frames

  -- # of each sync says how the frame before it ended
  hash-there : (n : ℕ) → n < 497 → hash_at b (1932 * n) ≡ hash c n
  hash-there zero h = refl
  hash-there (suc n) h = ap (λ (k : ℕ). hash_at b (1932 * k)) (sym (add-one n)) ∙ sym (given n (omega arith)).next-is

  frame-there : (n : ℕ) → n < 496 → take 1932 (drop (1932 * n) b) ≡ bits (recorded c n)
  unfolding frame
  frame-there n h =
      frame-as-read (sync_number n) b (1932 * n) (Ecc.row_of work n) (get_or dc n 0) (right n (omega arith)) (given n h)
      ∙ ap (λ (t : Bool). frame t (sync_number n) (Ecc.row_of work n) (get_or dc n 0)) (hash-there n (omega arith))

  run-there : (n : ℕ) → n ≤ 496 → take (1932 * n) b ≡ bits (run c n)
  unfolding run
  run-there zero h = refl
  run-there (suc n) h =
      let more : 1932 * suc n ≡ 1932 * n + 1932 = omega arith in
      ap (λ (k : ℕ). take k b) more
      ∙ take-add (1932 * n) 1932 b
      ∙ ap₂ ◌++◌ (run-there n (omega arith)) (frame-there n h)
      ∙ sym (bits-append (run c n) (recorded c n))

  pub stream-there : take 958302 b ≡ bits (stream c 496)
  stream-there =
      take-add 958272 30 b
      ∙ ap₂ ◌++◌ (run-there 496 (omega arith))
      (sync-as-read (sync_number 496) b (1932 * 496) (right 496 (omega arith)) ∙ ap (λ (t : Bool). bits (sync t (sync_number 496))) (hash-there 496 (omega arith)))
      ∙ sym (bits-append (run c 496) (sync (hash c 496) (sync_number 496)))
