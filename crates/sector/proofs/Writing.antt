-- What the code that writes and tests data frames makes of the pass, and what it answers. Assumes nothing.
use mathlib.Core.Path.{◌≡◌, sym, ap, ap₂, ◌∙◌}
use mathlib.Core.Bool.{true, false}
use mathlib.Core.List.{List, [], ◌++◌, append-nil}
use Prim.Native.Nat.{ℕ, ◌+◌, ◌^◌, ◌<◌}
use native.Mathlib.Omega.{arith}
use borrow.Author.Tests.{eq-eqb, ne_eqb}
use lib.Bits.{bit_xor, xor_lt}
use lib.Dec.{eqb}
use lib.ListN.{length, get_or, take, drop, length-drop, take-append-drop, drop_of_length-le}
use lib.Seq.{take_at, drop_at, take_all, get_or-drop, length-take-le}
use Rattle.laws.specs.Bytes.{Bytes}
use Rattle.laws.specs.Combined.{combined}
use Rattle.laws.specs.Tabulate.{tabulate}
use Rattle.big_endian.specs.Words.{word_at, four_bytes}
use Rattle.big_endian.proofs.Words.{four-bytes-back, number-of-four, four-combined, four-there}
use Rattle.edc.specs.Edc.{edc_of, edc_bytes}
use Rattle.scrambling.specs.Scrambling.{scrambled}
use Rattle.scrambling.proofs.Stream.{length-scrambled, scrambled-append}
use Rattle.sector_pass.specs.Pass.{PassWriting, PassReading}
use Rattle.sector.specs.DataFrame.{data_frame, edc_right, framed, framed_of}

-- ---- behind the pass

-- the code scrambled
four-scrambled : (stream : List ℕ) (at v : ℕ) → Bytes stream → four_bytes (bit_xor v (word_at stream at)) ≡ scrambled (drop at stream) (four_bytes v)
unfolding combined scrambled tabulate
four-scrambled stream at v bytes =
    let there : (j : ℕ) → get_or stream (at + j) 0 ≡ get_or (drop at stream) j 0 = λ j. sym (get_or-drop at stream j 0) in
    let here : at ≡ at + 0 = omega arith in
    four-combined v (word_at stream at)
    ∙ ap (combined (four_bytes v)) (four-bytes-back (get_or stream at 0) (get_or stream (at + 1) 0) (get_or stream (at + 2) 0) (get_or stream (at + 3) 0) (bytes at) (bytes (at + 1)) (bytes (at + 2)) (bytes (at + 3)))
    ∙ cc (ap (λ (k : ℕ). get_or stream k 0) here, there 0, there 1, there 2, there 3)

pub written-frame : (user stream before frame code back : List ℕ) (register w : ℕ) → length user ≡ 2048 → length before ≡ 2052 → Bytes stream
    → PassWriting user stream before 2048 frame register → w ≡ word_at stream 2048 → code ≡ four_bytes (bit_xor register w) → back ≡ code
    → take 2048 frame ++ (back ++ drop 4 (drop 2048 frame)) ≡ scrambled stream (data_frame user)
unfolding data_frame edc_bytes
written-frame user stream before frame code back register w size whole bytes p ew ec eb =
    let all : take 2048 user ≡ user = take_all 2048 user (omega arith) in
    let none : drop 4 (drop 2048 frame) ≡ [] =
    ap (drop 4) p.rest ∙ drop_of_length-le (drop 2048 before) {i = 4} (omega (arith, length-drop 2048 before)) in
    let held : register ≡ edc_of user = p.remainder ∙ ap edc_of all in
    ap₂ ◌++◌ (p.written ∙ ap (scrambled stream) all)
    (ap (◌++◌ back) none ∙ append-nil back ∙ eb ∙ ec ∙ ap₂ (λ (r x : ℕ). four_bytes (bit_xor r x)) held ew ∙ four-scrambled stream 2048 (edc_of user) bytes)
    ∙ sym (scrambled-append stream user (four_bytes (edc_of user)) ∙ ap (λ (k : ℕ). scrambled stream user ++ scrambled (drop k stream) (four_bytes (edc_of user))) size)

-- what `edc_right` compares
pub code-compared : (frame stream : List ℕ) (register v w : ℕ) → length frame ≡ 2052 → Bytes frame → Bytes stream → PassReading frame stream 2048 register → v ≡ word_at frame 2048 → w ≡ word_at stream 2048
    → eqb (bit_xor v w) register ≡ edc_right (scrambled stream frame)
unfolding edc_right
code-compared frame stream register v w size bf bs p ev ew =
    rw (eq-eqb (length (scrambled stream frame)) 2052 (length-scrambled stream frame ∙ size), front, back, ← p.remainder, number-of-four (bit_xor v w) (xor_lt 32 v w v-lt w-lt))
  where
    v-lt : v < 2 ^ 32
    v-lt = omega (arith, ev, bf 2048, bf 2049, bf 2050, bf 2051)

    w-lt : w < 2 ^ 32
    w-lt = omega (arith, ew, bs 2048, bs 2049, bs 2050, bs 2051)

    parted : scrambled stream frame ≡ scrambled stream (take 2048 frame) ++ scrambled (drop 2048 stream) (drop 2048 frame)
    parted =
        ap (scrambled stream) (sym (take-append-drop 2048 frame))
        ∙ scrambled-append stream (take 2048 frame) (drop 2048 frame)
        ∙ ap (λ (k : ℕ). scrambled stream (take 2048 frame) ++ scrambled (drop k stream) (drop 2048 frame)) front-size
      where
        front-size : length (take 2048 frame) ≡ 2048
        front-size = length-take-le 2048 frame (omega arith)

    first : length (scrambled stream (take 2048 frame)) ≡ 2048
    first = length-scrambled stream (take 2048 frame) ∙ length-take-le 2048 frame (omega arith)

    front : take 2048 (scrambled stream frame) ≡ scrambled stream (take 2048 frame)
    front = ap (take 2048) parted ∙ take_at (scrambled stream (take 2048 frame)) (scrambled (drop 2048 stream) (drop 2048 frame)) 2048 first

    four : drop 2048 frame ≡ four_bytes v
    four = sym (ap four_bytes ev ∙ four-there frame 2048 bf (omega arith) ∙ take_all 4 (drop 2048 frame) (omega (arith, length-drop 2048 frame)))

    back : drop 2048 (scrambled stream frame) ≡ four_bytes (bit_xor v w)
    back =
        ap (drop 2048) parted
        ∙ drop_at (scrambled stream (take 2048 frame)) (scrambled (drop 2048 stream) (drop 2048 frame)) 2048 first
        ∙ ap (scrambled (drop 2048 stream)) four
        ∙ sym (four-scrambled stream 2048 v bs)
        ∙ ap (λ (x : ℕ). four_bytes (bit_xor v x)) (sym ew)

-- ---- the answers

pub other-user : (user stream frame : List ℕ) → (length user ≡ 2048 → ⊥) → framed false frame ≡ framed_of user stream frame
unfolding framed_of
other-user user stream frame h = rw (ne_eqb (length user) 2048 h)

pub other-frame : (user stream frame : List ℕ) → length user ≡ 2048 → (length frame ≡ 2052 → ⊥) → framed false frame ≡ framed_of user stream frame
unfolding framed_of
other-frame user stream frame h g = rw (eq-eqb (length user) 2048 h, ne_eqb (length frame) 2052 g)

pub both-lengths : (user stream frame l : List ℕ) → length user ≡ 2048 → length frame ≡ 2052 → l ≡ scrambled stream (data_frame user) → framed true l ≡ framed_of user stream frame
unfolding framed_of
both-lengths user stream frame l h g e = rw (eq-eqb (length user) 2048 h, eq-eqb (length frame) 2052 g, e)

pub other_length : (frame stream : List ℕ) → (length frame ≡ 2052 → ⊥) → false ≡ edc_right (scrambled stream frame)
unfolding edc_right
other_length frame stream h = rw (length-scrambled stream frame, ne_eqb (length frame) 2052 h)
