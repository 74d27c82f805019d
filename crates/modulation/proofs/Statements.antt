-- What is promised of 17PP modulation and of a run of frames, each theorem in one line from the file that proves it. Assumes nothing.
use mathlib.Core.Bool.{Bool, beq}
use mathlib.Core.List.{List, ◌∷◌, ◌++◌, append_assoc}
use mathlib.Core.Logic.{◌↔◌}
use mathlib.Core.Path.{◌≡◌, refl, ap, subst, ◌∙◌}
use Prim.Native.Nat.{ℕ, zero, suc, ◌*◌, ◌%◌, ◌<◌, ◌≤◌}
use native.Mathlib.Omega.{arith}
use borrow.Author.Tests.{lt-ltb}
use lib.Dec.{leb, leb→le, ltb}
use lib.ListN.{length}
use Rattle.laws.proofs.Finite.{all, all-at, all₂, all₂-at}
use Rattle.bits.specs.Bits.{Bits}
use Rattle.modulation.specs.Modulation.{Two, rows, row_at, fits, choose, terminates, Modulated, modulate_from, modulate}
use Rattle.modulation.specs.Bits.{pairs, data_bits, bits, ones}
use Rattle.modulation.specs.Sync.{FS, sync}
use Rattle.modulation.specs.Stream.{Recording, modulated, run, stream, Full}
use Rattle.modulation.specs.Gaps.{LongGaps, Spaced, EndsLong, NoSeven}
use Rattle.modulation.specs.Demodulator.{demodulate}
use Rattle.laws.proofs.Booleans.{implies, given, beq_same}
use Rattle.modulation.proofs.Bits.{bits-injective, length-bits, length_pairs, data_bits-pairs, pairs-injective}
use Rattle.modulation.proofs.Words.{First, Word, word_at}
use Rattle.modulation.proofs.Words
use Rattle.modulation.proofs.Size
use Rattle.modulation.proofs.Demodulator
use Rattle.modulation.proofs.Limits

-- ---- the table (13.17.2)

-- sixteen rows; of the first fourteen none is longer than one before it, and the other two are the terminating ones
pub rows-sixteen : length rows ≡ 16
rows-sixteen = refl

pub rows-longest-first : (j k : ℕ) → j < k → k < 14 → length (row_at k).pairs ≤ length (row_at j).pairs
unfolding all all₂
rows-longest-first j k h l =
    leb→le (length (row_at k).pairs) (length (row_at j).pairs)
    (given (ltb j k) _ (all₂-at 14 14 (λ j k. implies (ltb j k) (leb (length (row_at k).pairs) (length (row_at j).pairs))) tt j k (omega arith) l) (lt-ltb j k h))

pub rows-terminating : (k : ℕ) → k < 16 → terminates (row_at k).when ≡ leb 14 k
unfolding all
rows-terminating k h = beq_same (terminates (row_at k).when) (leb 14 k) (all-at 16 (λ k. beq (terminates (row_at k).when) (leb 14 k)) tt k h)

-- at the front of any pairs, after either bit, some row of the table fits, and the one taken is the first that does
pub some-row-fits : (before : Bool) (d : Two) (ds : List Two)
    → First (λ r. fits r before (d ∷ ds) (modulate_from ds)) rows (choose (λ r. fits r before (d ∷ ds) (modulate_from ds)) rows)
some-row-fits = Words.some-row

-- its groups stand in front, and what its pairs leave gives the rest
pub word-in-front : (before : Bool) (d : Two) (ds : List Two) → Word before (d ∷ ds)
word-in-front = Words.word_at

-- ---- sizes

-- 2n data bits give 3n modulation bits
pub size : (before : Bool) (l : List ℕ) (n : ℕ) → length l ≡ 2 * n → length (bits (modulate before (pairs l)).groups) ≡ 3 * n
size before l n e = omega (arith, length-bits (modulate before (pairs l)).groups, Size.size before (pairs l), length_pairs l)

pub size-of-a-frame : (before : Bool) (l : List ℕ) → length l ≡ 1268 → length (bits (modulate before (pairs l)).groups) ≡ 1902
size-of-a-frame before l e = size before l 634 e

-- ---- parity preserve (13.17.1)

-- an even number of data bits has an even number of ones if and only if its modulation bits have
pub parity-preserve : (before : Bool) (l : List ℕ) → Bits l → length l % 2 ≡ 0 → ones (bits (modulate before (pairs l)).groups) % 2 ≡ ones l % 2
parity-preserve before l h e = Size.parity before (pairs l) ∙ ap (λ (k : List ℕ). ones k % 2) (data_bits-pairs l e h)

-- ---- modulation loses nothing

-- the demodulator gives the data bits back
pub comes_back : (before : Bool) (l : List ℕ) → Bits l → length l % 2 ≡ 0 → data_bits (demodulate before (modulate before (pairs l))) ≡ l
comes_back before l h e = ap data_bits (Demodulator.comes_back before (pairs l)) ∙ data_bits-pairs l e h

-- so equal modulation bits and an equal end come from equal data bits
pub injective : (before : Bool) (l k : List ℕ) → Bits l → Bits k → length l % 2 ≡ 0 → length k % 2 ≡ 0
    → bits (modulate before (pairs l)).groups ≡ bits (modulate before (pairs k)).groups → (modulate before (pairs l)).terminated ≡ (modulate before (pairs k)).terminated
    → l ≡ k
injective before l k hl hk el ek same end =
    pairs-injective l k el ek hl hk
    (Demodulator.injective before (pairs l) (pairs k)
    (λ i. record { groups = bits-injective (modulate before (pairs l)).groups (modulate before (pairs k)).groups same i; terminated = end i }))

-- some data bits give a frame, whatever its groups, if and only if what the demodulator reads of it gives it again
pub readable : (before : Bool) (f : Modulated) → ((ds : List Two) × (modulate before ds ≡ f)) ↔ (modulate before (demodulate before f) ≡ f)
readable = Demodulator.readable

-- ---- a run of n full frames and the sync that follows: gaps (13.17.1, 13.17.4)

-- the sync of each frame, and the one that follows, has its two gaps of 8 zeros
pub long-gaps : (c : Recording) (n : ℕ) → Full c n → (k : ℕ) → k ≤ n → LongGaps (bits (stream c n)) (1932 * k)
long-gaps = Limits.long-gaps

-- every gap between neighbouring ones is one of those, or has 1 to 7 zeros
pub gap-limits : (c : Recording) (n : ℕ) → Full c n → Spaced EndsLong (bits (stream c n))
gap-limits = Limits.spaced

-- no seven gaps of a single zero follow one another
pub no_seven : (c : Recording) (n : ℕ) → Full c n → NoSeven (bits (stream c n))
no_seven = Limits.no_seven

-- ---- one frame between two syncs

-- any sync with either #, a full frame, any sync
abbrev pub framed : Bool → FS → List Two → FS → List ℕ
framed hash n ds next = bits (sync hash n ++ ((modulated n ds).groups ++ sync (modulated n ds).terminated next))

module _ (hash : Bool) (n : FS) (ds : List Two) (next : FS) (full : length ds ≡ 634) where
  one : Recording
  one = record { first = hash; number = λ k. elim k [ zero ↦ n | suc k ↦ next ]; frames = λ k. ds }

  is-stream : bits (stream one 1) ≡ framed hash n ds next
  unfolding one run
  is-stream = ap bits (append_assoc (sync hash n) (modulated n ds).groups (sync (modulated n ds).terminated next))

  pub frame-long-gaps : LongGaps (framed hash n ds next) 0 × LongGaps (framed hash n ds next) 1932
  unfolding one
  frame-long-gaps = (
    subst (λ (l : List ℕ). LongGaps l 0) is-stream (long-gaps one 1 (λ k h. full) 0 (omega arith)),
    subst (λ (l : List ℕ). LongGaps l 1932) is-stream (long-gaps one 1 (λ k h. full) 1 (omega arith)),
  )

  pub frame-gap-limits : Spaced EndsLong (framed hash n ds next)
  unfolding one
  frame-gap-limits = subst (Spaced EndsLong) is-stream (gap-limits one 1 (λ k h. full))

  pub frame-no-seven : NoSeven (framed hash n ds next)
  unfolding one
  frame-no-seven = subst NoSeven is-stream (no_seven one 1 (λ k h. full))
