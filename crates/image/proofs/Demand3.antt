-- Demand 3, on the definition of the image. Assumes nothing.
use mathlib.Core.Path.{◌≡◌, refl, sym, ap, ◌∙◌}
use mathlib.Core.Logic.{◌↔◌}
use mathlib.Core.Bool.{Bool, true, false, cond, not}
use mathlib.Core.List.{List, [], ◌∷◌, ◌++◌}
use Prim.Native.Nat.{ℕ, zero, suc, ◌+◌, ◌*◌, ◌%◌, ◌^◌, ◌<◌, ◌≤◌}
use native.Mathlib.Omega.{arith}
use borrow.Author.Tests.{ne_eqb}
use lib.Dec.{eqb}
use lib.ListN.{length, get_or, take, drop, length-append}
use lib.Seq.{ext_get_or, take-append_seam, drop-append-le}
use Rattle.laws.specs.Bytes.{Bytes}
use Rattle.laws.specs.Differing.{differs_at}
use Rattle.laws.proofs.Differing.{agrees}
use Rattle.bits.specs.Bits.{Bits, bits_of, packed}
use Rattle.bits.proofs.Bits.{bits-then}
use Rattle.bits.proofs.Pack.{bits-packed}
use Rattle.modulation.specs.Stream.{stream}
use Rattle.modulation.specs.Gaps.{LongGaps, Spaced, EndsLong, NoSeven}
use Rattle.modulation.proofs.Bits.{pairs-injective}
use Rattle.modulation.proofs.Fronts.{bits-groups}
use Rattle.modulation.proofs.Streams.{length-stream}
use Rattle.modulation.proofs.Limits.{long-gaps, spaced, no_seven}
use Rattle.modulation.proofs.Unique.{unique}
use Rattle.modulation.proofs.FirstHash.{stream-first-bit}
use Rattle.frame_bits.specs.FrameBits.{frame_bits}
use Rattle.frame.specs.Frame.{frame_pairs}
use Rattle.frame_bits.proofs.FrameBits.{length-frame-bits, frame-bits-bits, frame-bits-inj}
use Rattle.cluster.specs.EccCluster.{row_of}
use Rattle.cluster.proofs.Statements.{length-cluster, bytes-cluster, cluster-inj}
use Rattle.image.specs.Image.{Input, IsAccepted, cluster, recording, image_bits, image}
use Rattle.image.proofs.Recordings.{full}
use Rattle.cluster.proofs.Rows.{length-row, bytes-row, rows_same}

-- ---- equal images come from equal inputs

-- the five parts of two inputs are equal
pub record Same (a b : Input) : Type 0 where
  pub user : a.user ≡ b.user
  pub psn : a.psn ≡ b.psn
  pub side : a.side ≡ b.side
  pub dc : a.dc ≡ b.dc
  pub first : a.first ≡ b.first

size_of : (input : Input) → IsAccepted input → length (cluster input) ≡ 76880
size_of input is = length-cluster input.user input.psn input.side is.user is.psn is.side

-- frame n of two inputs with the same data bits has the same row and the same dc word
same-frame : (a b : Input) → IsAccepted a → IsAccepted b → (n : ℕ) → n < 496
    → frame_pairs (row_of (cluster a) n) (get_or a.dc n 0) ≡ frame_pairs (row_of (cluster b) n) (get_or b.dc n 0)
    → (row_of (cluster a) n ≡ row_of (cluster b) n) × (get_or a.dc n 0 ≡ get_or b.dc n 0)
same-frame a b ha hb n h e =
    frame-bits-inj (row a) (row b) (dc a) (dc b) (row-size a ha) (row-size b hb) (row-bytes a ha) (row-bytes b hb) (dc-lt a ha) (dc-lt b hb)
    (pairs-injective (frame_bits (row a) (dc a)) (frame_bits (row b) (dc b)) (even a) (even b) (frame-bits-bits (row a) (dc a)) (frame-bits-bits (row b) (dc b)) e)
  where
    row : Input → List ℕ
    row input = row_of (cluster input) n

    dc : Input → ℕ
    dc input = get_or input.dc n 0

    row-size : (input : Input) → IsAccepted input → length (row input) ≡ 155
    row-size input is = length-row (cluster input) (size_of input is) n h

    row-bytes : (input : Input) → IsAccepted input → Bytes (row input)
    row-bytes input is = bytes-row (cluster input) (bytes-cluster input.user input.psn input.side is.user is.psn is.side) n

    dc-lt : (input : Input) → IsAccepted input → dc input < 2 ^ 28
    dc-lt input is = omega (arith, is.dc.small n h)

    even : (input : Input) → length (frame_bits (row input) (dc input)) % 2 ≡ 0
    even input = ap (λ (m : ℕ). m % 2) (length-frame-bits (row input) (dc input))

-- DEMAND 3, first half: for two accepted inputs, whoever picked their dc words and first #, the 958,302 bits are equal exactly when the user
-- bytes, the PSN, the side data, the dc words and the first # are
pub images-equal : (a b : Input) → IsAccepted a → IsAccepted b → (image_bits a ≡ image_bits b) ↔ Same a b
unfolding image_bits
images-equal a b ha hb = (apart, together)
  where
    determined : image_bits a ≡ image_bits b → (a.first ≡ b.first) × ((n : ℕ) → n < 496 → (recording a).frames n ≡ (recording b).frames n)
    determined e = unique (recording a) (recording b) 496 (λ k _. refl) (full a 496) (full b 496) e

    same : image_bits a ≡ image_bits b → (n : ℕ) → n < 496 → (row_of (cluster a) n ≡ row_of (cluster b) n) × (get_or a.dc n 0 ≡ get_or b.dc n 0)
    same e n h = same-frame a b ha hb n h ((determined e).1 n h)

    apart : image_bits a ≡ image_bits b → Same a b
    apart e =
        let parts =
        (cluster-inj a.user b.user a.side b.side a.psn b.psn ha.user hb.user ha.psn hb.psn ha.side hb.side).0
        (rows_same (cluster a) (cluster b) (size_of a ha) (size_of b hb) (λ n h. (same e n h).0)) in
        record {
          user = parts.0;
          psn = parts.1;
          side = parts.2;
          dc = ext_get_or 0 a.dc b.dc (ha.dc.size ∙ sym hb.dc.size) (λ n h. (same e n (omega (arith, ha.dc.size))).1);
          first = (determined e).0;
        }

    together : Same a b → image_bits a ≡ image_bits b
    together s = ap image_bits (λ i. record { user = s.user i; psn = s.psn i; side = s.side i; dc = s.dc i; first = s.first i })

-- ---- gaps

-- over all bits: each of the 497 syncs has its two gaps of 8, every other gap has 1 to 7 zeros, and no seven gaps in a row are single zeros
pub record Limits (l : List ℕ) : Type 0 where
  pub long : (k : ℕ) → k ≤ 496 → LongGaps l (1932 * k)
  pub others : Spaced EndsLong l
  pub singles : NoSeven l

-- DEMAND 3, second half: whatever the dc words and the first #, from one frame into the next as well as inside each, the closing sync included
pub image-limits : (input : Input) → Limits (image_bits input)
unfolding image_bits
image-limits input =
    let c = recording input in
    let all = full input 496 in
    record { long = long-gaps c 496 all; others = spaced c 496 all; singles = no_seven c 496 all }

-- the image has 958,302 bits
pub image-size : (input : Input) → length (image_bits input) ≡ 958302
unfolding image_bits
image-size input = length-stream (recording input) 496 (full input 496)

-- ---- in bytes

-- the bits of the image's bytes are the 958,302 bits and two zeros
pub image-bits : (input : Input) → bits_of (image input) ≡ image_bits input ++ (0 ∷ 0 ∷ [])
unfolding image
image-bits input = bits-packed (image_bits input ++ (0 ∷ 0 ∷ [])) (bits-then (image_bits input) (0 ∷ 0 ∷ []) all two) whole
  where
    all : Bits (image_bits input)
    all = unfold image_bits in bits-groups (stream (recording input) 496)

    two : Bits (0 ∷ 0 ∷ [])
    two zero = omega arith
    two (suc zero) = omega arith
    two (suc (suc i)) = omega arith

    whole : length (image_bits input ++ (0 ∷ 0 ∷ [])) % 8 ≡ 0
    whole = ap (λ (n : ℕ). n % 8) (length-append (image_bits input) (0 ∷ 0 ∷ []) ∙ ap (λ (n : ℕ). n + 2) (image-size input))

-- ---- # of the first sync

-- an input with h as its first #
abbrev pub starting_with : Bool → Input → Input
starting_with h input = record { user = input.user; psn = input.psn; side = input.side; dc = input.dc; first = h }

-- the first # is the first bit, and no other bit depends on it
pub image-first-bit : (h : Bool) (input : Input) → image_bits (starting_with h input) ≡ cond h 1 0 ∷ drop 1 (image_bits input)
unfolding image_bits
image-first-bit h input = stream-first-bit (recording input) h 495

-- in the image's bytes, msb first, as well
pub image-first-bit-packed : (h : Bool) (input : Input) → bits_of (image (starting_with h input)) ≡ cond h 1 0 ∷ drop 1 (bits_of (image input))
image-first-bit-packed h input =
    image-bits (starting_with h input)
    ∙ ap (λ (l : List ℕ). l ++ (0 ∷ 0 ∷ [])) (image-first-bit h input)
    ∙ ap (◌∷◌ (cond h 1 0)) (sym (ap (drop 1) (image-bits input) ∙ drop-append-le 1 (image_bits input) (0 ∷ 0 ∷ []) (omega (arith, image-size input))))

-- lists that begin with other bits and go on alike
one-differs : (h : Bool) (l m : List ℕ) → l ≡ cond (not h) 1 0 ∷ drop 1 m → m ≡ cond h 1 0 ∷ drop 1 m → (k : ℕ) → differs_at l m k ≡ eqb k 0
unfolding differs_at
one-differs h l m el em k = ap (λ (x : List ℕ). differs_at x m k) el ∙ ap (λ (x : List ℕ). differs_at (cond (not h) 1 0 ∷ drop 1 m) x k) em ∙ by h k
  where
    by : (h : Bool) (k : ℕ) → differs_at (cond (not h) 1 0 ∷ drop 1 m) (cond h 1 0 ∷ drop 1 m) k ≡ eqb k 0
    by true zero = refl
    by false zero = refl
    by h (suc k) = agrees (cond (not h) 1 0 ∷ drop 1 m) (cond h 1 0 ∷ drop 1 m) (suc k) refl ∙ sym (ne_eqb (suc k) 0 (λ e. omega (arith, e)))

-- HENCE: the image with the other first # differs in its first bit and in no other
pub other-first : (input : Input) (k : ℕ) → differs_at (image_bits (starting_with (not input.first) input)) (image_bits input) k ≡ eqb k 0
other-first input = one-differs input.first _ (image_bits input) (image-first-bit (not input.first) input) (image-first-bit input.first input)

pub other-first-packed : (input : Input) (k : ℕ) → differs_at (bits_of (image (starting_with (not input.first) input))) (bits_of (image input)) k ≡ eqb k 0
other-first-packed input = one-differs input.first _ (bits_of (image input)) (image-first-bit-packed (not input.first) input) (image-first-bit-packed input.first input)
