-- Code words and data frames of an LDC cluster: those it was made of come out again, and a cluster whose code words have their roots
-- is made of what comes out. Assumes nothing.
use mathlib.Core.Path.{◌≡◌, sym, ap, ap₂, ◌∙◌}
use mathlib.Core.Bool.{true}
use mathlib.Core.List.{List, ◌++◌}
use Prim.Native.Nat.{ℕ, ◌+◌, ◌*◌, ◌/◌, ◌%◌, ◌<◌}
use native.Mathlib.Omega.{arith}
use lib.ListN.{length, get_or, take, drop, length-append, get_or-append}
use lib.Seq.{get_or-take, length-take-le}
use Rattle.laws.specs.Bytes.{Bytes}
use Rattle.laws.proofs.Bytes.{bytes-tabulate, bytes-append}
use Rattle.laws.proofs.Tabulate.{length-tabulate, get_d_tabulate, is-tabulate, tabulate-ext}
use Rattle.column.specs.Column.{generator, MultipleOf, ParityExactly, parity, has_roots}
use Rattle.column.proofs.Parity.{parity-length, parity-bytes, parity-test, test-column}
use Rattle.column.proofs.Multiple.{parity-multiple, column-exactly}
use Rattle.ldc.specs.LdcBlock.{data_byte, information, code_word}
use Rattle.ldc.specs.LdcCluster.{shifted, ldc_byte}
use Rattle.ldc.specs.Places.{ldc_place, at, word_in, data_in, frame_in}
use Rattle.ldc.proofs.Interleaving.{place-column-lt, shifted-word-lt, shifted-byte-lt, byte-at-place, word-at-place, place-row, place-column}

-- ---- code words

module _ (frames : ℕ → List ℕ) (L : ℕ) where
  pub length-information : length (information frames L) ≡ 216
  unfolding information
  length-information = length-tabulate 216 (λ i. data_byte frames (216 * L + i))

  pub get_d-information : (i : ℕ) → i < 216 → get_or (information frames L) i 0 ≡ data_byte frames (216 * L + i)
  unfolding information
  get_d-information i h = get_d_tabulate 216 (λ i. data_byte frames (216 * L + i)) i 0 h

  -- an information byte stands where it stood
  pub get_d-word : (i : ℕ) → i < 216 → get_or (code_word frames L) i 0 ≡ data_byte frames (216 * L + i)
  unfolding code_word
  get_d-word i h =
      get_or-append (information frames L) (parity 32 (information frames L)) 0 i (omega (arith, length-information))
      ∙ get_d-information i h

  pub length-word : length (code_word frames L) ≡ 248
  unfolding code_word
  length-word =
      let message = information frames L in
      omega (arith, length-append message (parity 32 message), length-information, parity-length 32 message)

module _ (frames : ℕ → List ℕ) (L : ℕ) (bytes : (F : ℕ) → Bytes (frames F)) where
  pub bytes-information : Bytes (information frames L)
  unfolding information
  bytes-information = bytes-tabulate 216 (λ i. data_byte frames (216 * L + i)) (λ i h. bytes ((216 * L + i) / 2052) ((216 * L + i) % 2052))

  pub bytes_word : Bytes (code_word frames L)
  unfolding code_word
  bytes_word =
      let message = information frames L in
      bytes-append message (parity 32 message) bytes-information (parity-bytes 32 message)

  pub word-roots : has_roots 32 (code_word frames L) ≡ true
  unfolding code_word
  word-roots = parity-test 32 (information frames L) bytes-information

  -- 13.7: a code word is a multiple of the generator
  pub word-multiple : MultipleOf (generator 32) (code_word frames L)
  unfolding code_word
  word-multiple = parity-multiple 32 (information frames L) bytes-information

  -- and its last 32 bytes are the only ones that make it one
  pub word-parity : ParityExactly 32 (take 216 (code_word frames L)) (drop 216 (code_word frames L))
  word-parity = column-exactly 32 (omega arith) 216 (code_word frames L) bytes_word (length-word frames L) word-roots

-- ---- what a cluster was made of comes out again

-- the byte at the place of byte N of code word L
pub byte_at : (frames : ℕ → List ℕ) (L N : ℕ) → L < 304 → at (ldc_byte frames) (ldc_place L N) ≡ get_or (code_word frames L) N 0
byte_at frames L N h = ap₂ (λ (l n : ℕ). get_or (code_word frames l) n 0) (word-at-place L N h) (byte-at-place L N h)

pub words_back : (frames : ℕ → List ℕ) → ((F : ℕ) → Bytes (frames F)) → (L : ℕ) → L < 304 → word_in (ldc_byte frames) L ≡ code_word frames L
unfolding word_in
words_back frames bytes L h =
    sym (is-tabulate 0 248 (λ N. at (ldc_byte frames) (ldc_place L N)) (code_word frames L) (length-word frames L) (λ N _. sym (byte_at frames L N h)))

data-back : (frames : ℕ → List ℕ) (p : ℕ) → p < 65664 → data_in (ldc_byte frames) p ≡ data_byte frames p
data-back frames p h =
    let whole : 216 * (p / 216) + p % 216 ≡ p = omega arith in
    byte_at frames (p / 216) (p % 216) (omega arith) ∙ get_d-word frames (p / 216) (p % 216) (omega arith) ∙ ap (data_byte frames) whole

pub frames-back : (frames : ℕ → List ℕ) (F : ℕ) → F < 32 → length (frames F) ≡ 2052 → frame_in (ldc_byte frames) F ≡ frames F
unfolding frame_in
frames-back frames F h size = sym (is-tabulate 0 2052 (λ k. data_in (ldc_byte frames) (2052 * F + k)) (frames F) size (λ k l. sym (byte k l)))
  where
    byte : (k : ℕ) → k < 2052 → data_in (ldc_byte frames) (2052 * F + k) ≡ get_or (frames F) k 0
    byte k l =
        let frame : (2052 * F + k) / 2052 ≡ F = omega arith in
        let place : (2052 * F + k) % 2052 ≡ k = omega arith in
        data-back frames (2052 * F + k) (omega arith) ∙ ap₂ (λ (f j : ℕ). get_or (frames f) j 0) frame place

-- ---- a cluster whose code words have their roots is made of what comes out

pub length-frame-in : (cluster : ℕ → ℕ → ℕ) (F : ℕ) → length (frame_in cluster F) ≡ 2052
unfolding frame_in
length-frame-in cluster F = length-tabulate 2052 (λ k. data_in cluster (2052 * F + k))

module _ (cluster : ℕ → ℕ → ℕ) where
  pub length-word-in : (L : ℕ) → length (word_in cluster L) ≡ 248
  unfolding word_in
  length-word-in L = length-tabulate 248 (λ N. at cluster (ldc_place L N))

  get_d-word-in : (L N : ℕ) → N < 248 → get_or (word_in cluster L) N 0 ≡ at cluster (ldc_place L N)
  unfolding word_in
  get_d-word-in L N h = get_d_tabulate 248 (λ N. at cluster (ldc_place L N)) N 0 h

-- clusters with the same code words have the same data frames
pub same-words : (a b : ℕ → ℕ → ℕ) → ((L : ℕ) → L < 304 → word_in a L ≡ word_in b L) → (F : ℕ) → F < 32 → frame_in a F ≡ frame_in b F
unfolding frame_in
same-words a b same F h = tabulate-ext 0 2052 (λ k. data_in a (2052 * F + k)) (λ k. data_in b (2052 * F + k)) (λ k l. byte (2052 * F + k) (omega arith))
  where
    byte : (p : ℕ) → p < 65664 → data_in a p ≡ data_in b p
    byte p l =
        sym (get_d-word-in a (p / 216) (p % 216) (omega arith))
        ∙ ap (λ (w : List ℕ). get_or w (p % 216) 0) (same (p / 216) (omega arith))
        ∙ get_d-word-in b (p / 216) (p % 216) (omega arith)

module _ (cluster : ℕ → ℕ → ℕ) (bytes : (row column : ℕ) → row < 496 → column < 152 → cluster row column < 256) where
  pub bytes-word-in : (L : ℕ) → Bytes (word_in cluster L)
  unfolding word_in
  bytes-word-in L = bytes-tabulate 248 (λ N. at cluster (ldc_place L N)) (λ N h. bytes (ldc_place L N).row (ldc_place L N).column (omega arith) (place-column-lt L N))

  pub bytes-frame-in : (F : ℕ) → Bytes (frame_in cluster F)
  unfolding frame_in
  bytes-frame-in F =
      bytes-tabulate 2052 (λ k. data_in cluster (2052 * F + k))
      (λ k h. let p = 2052 * F + k in bytes (ldc_place (p / 216) (p % 216)).row (ldc_place (p / 216) (p % 216)).column (omega arith) (place-column-lt (p / 216) (p % 216)))

  -- the information bytes of a code word are those of the data block
  message-in : (L : ℕ) → L < 304 → take 216 (word_in cluster L) ≡ information (frame_in cluster) L
  unfolding information frame_in
  message-in L h =
      is-tabulate 0 216 (λ i. data_byte (frame_in cluster) (216 * L + i)) (take 216 (word_in cluster L)) (length-take-le 216 (word_in cluster L) (omega (arith, length-word-in cluster L)))
      (λ i l. get_or-take 216 (word_in cluster L) i 0 l ∙ get_d-word-in cluster L i (omega arith) ∙ sym (byte i l))
    where
      byte : (i : ℕ) → i < 216 → data_byte (frame_in cluster) (216 * L + i) ≡ at cluster (ldc_place L i)
      byte i l =
          let p = 216 * L + i in
          let whole : 2052 * (p / 2052) + p % 2052 ≡ p = omega arith in
          let word : p / 216 ≡ L = omega arith in
          let place : p % 216 ≡ i = omega arith in
          get_d_tabulate 2052 (λ k. data_in cluster (2052 * (p / 2052) + k)) (p % 2052) 0 (omega arith)
          ∙ ap (data_in cluster) whole
          ∙ ap₂ (λ (w n : ℕ). at cluster (ldc_place w n)) word place

  pub made-of-words : (L : ℕ) → L < 304 → has_roots 32 (word_in cluster L) ≡ true → code_word (frame_in cluster) L ≡ word_in cluster L
  unfolding code_word
  made-of-words L h roots =
      ap (λ (m : List ℕ). m ++ parity 32 m) (sym (message-in L h))
      ∙ sym (test-column 32 (omega arith) 216 (word_in cluster L) (bytes-word-in L) (length-word-in cluster L) roots)

  pub cluster-back : ((L : ℕ) → L < 304 → has_roots 32 (word_in cluster L) ≡ true) → (row column : ℕ) → row < 496 → column < 152
      → ldc_byte (frame_in cluster) row column ≡ cluster row column
  cluster-back roots row column hr hc =
      let word = (shifted row column).word in
      let byte = (shifted row column).byte in
      ap (λ (l : List ℕ). get_or l byte 0) (made-of-words word (shifted-word-lt row column) (roots word (shifted-word-lt row column)))
      ∙ get_d-word-in cluster word byte (shifted-byte-lt row column hr)
      ∙ ap₂ cluster (place-row row column hc) (place-column row column hc)
