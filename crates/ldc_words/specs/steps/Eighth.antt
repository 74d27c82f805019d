-- An eighth of the LDC block: code words 38 e to 38 e + 37, whose information bytes are data frames 4 e to 4 e + 3 (13.5). What the steps
-- on it leave in the lent slices: `before` at entry, `after` at exit.
use Rattle.std.specs.Prelude.{◌≡◌, Bool, not, List, ◌++◌, ℕ, ◌+◌, ◌*◌, ◌-◌, ◌/◌, ◌%◌, ◌<◌, ◌≤◌, length, get_or, take, drop}
use Rattle.laws.specs.Scatter.{Scattered}
use Rattle.laws.specs.Tabulate.{tabulate}
use Rattle.column.specs.Column.{parity, has_roots}
use Rattle.sector.specs.DataFrame.{edc_right}
use Rattle.scrambling.specs.Scrambling.{scrambled}
use Rattle.ldc.specs.LdcBlock.{data_byte, code_word}
use Rattle.cluster.specs.steps.Places.{word_index}
use Rattle.sizes.specs.Sizes.{work_size}

-- ---- code words in the cluster

-- bytes n of the even code words stand in one row, the first `left` of 19 from `first` on and the others from `second` on
pub record RunOf (e n left first second : ℕ) : Type 0 where
  pub inside : (first < work_size) × (second < work_size)
  pub early : (i : ℕ) → i < 19 → i < left → first + i ≡ word_index (38 * e + 2 * i) n
  pub late : (i : ℕ) → i < 19 → left ≤ i → second + i - left ≡ word_index (38 * e + 2 * i) n

-- byte n of each code word is taken out of the cluster, or put into it
pub record BytesTaken (work : List ℕ) (e n : ℕ) (before after : List ℕ) : Type 0 where
  pub taken : Scattered 0 (λ j. 248 * j + n) (λ j. get_or work (word_index (38 * e + j) n) 0) before 38 after

pub record BytesPut (words : List ℕ) (e n : ℕ) (before after : List ℕ) : Type 0 where
  pub put : Scattered 0 (λ j. word_index (38 * e + j) n) (λ j. get_or words (248 * j + n) 0) before 38 after

-- so are the first `count` bytes of each; of what is put, the code words of the eighths before stay
pub record WordsTaken (work : List ℕ) (e count : ℕ) (words : List ℕ) : Type 0 where
  pub size : length words ≡ 9424
  pub bytes : (j n : ℕ) → j < 38 → n < count → get_or words (248 * j + n) 0 ≡ get_or work (word_index (38 * e + j) n) 0

pub record WordsPut (words : List ℕ) (e count : ℕ) (before after : List ℕ) : Type 0 where
  pub size : length after ≡ length before
  pub bytes : (j n : ℕ) → j < 38 → n < count → get_or after (word_index (38 * e + j) n) 0 ≡ get_or words (248 * j + n) 0
  pub kept : (L n : ℕ) → L < 38 * e → n < 248 → get_or after (word_index L n) 0 ≡ get_or before (word_index L n) 0

-- the first `count` code words of the data frames stand at their places
pub record LdcPut (frames : ℕ → List ℕ) (count : ℕ) (before after : List ℕ) : Type 0 where
  pub size : length after ≡ length before
  pub words : (L N : ℕ) → L < count → N < 248 → get_or after (word_index L N) 0 ≡ get_or (code_word frames L) N 0

-- ---- code words and data frames of an eighth, one behind the other

-- code word j of 38, and data frame f of four
abbrev pub eighth_word : List ℕ → ℕ → List ℕ
eighth_word words j = take 248 (drop (248 * j) words)

abbrev pub eighth_frame : List ℕ → ℕ → List ℕ
eighth_frame frames f = take 2052 (drop (2052 * f) frames)

-- the information bytes of the code words, 216 of each
unfoldable pub information_of : List ℕ → List ℕ
information_of words = tabulate 8208 (λ p. get_or words (248 * (p / 216) + p % 216) 0)

-- and the code words that they make with their parity
abbrev pub completed : List ℕ → List ℕ
completed information = information ++ parity 32 information

unfoldable pub completed_words : List ℕ → List ℕ
completed_words frames = tabulate 9424 (λ k. get_or (completed (take 216 (drop (216 * (k / 248)) frames))) (k % 248) 0)

-- the four data frames of eighth e
unfoldable pub frames_of : (ℕ → List ℕ) → ℕ → List ℕ
frames_of frames e = tabulate 8208 (λ p. data_byte frames (8208 * e + p))

-- ---- what is judged of them

unfoldable pub wrong_of : List ℕ → ℕ → Bool
wrong_of words j = not (has_roots 32 (eighth_word words j))

unfoldable pub wrong_frame : List ℕ → List ℕ → ℕ → Bool
wrong_frame stream frames f = not (edc_right (scrambled stream (eighth_frame frames f)))

-- their user bytes, 2,048 of each data frame
unfoldable pub user_of : List ℕ → List ℕ → List ℕ
user_of stream frames = tabulate 8192 (λ k. get_or (scrambled stream (eighth_frame frames (k / 2048))) (k % 2048) 0)
