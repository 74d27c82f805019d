-- What is read in an ECC cluster: answers 15 and 16 of document 01, and the user bytes. 12 to 14 and the side data are read in its BIS block.
use Rattle.std.specs.Prelude.{◌≡◌, Bool, not, List, ℕ, ◌/◌, ◌%◌, get_or}
use Rattle.laws.specs.First.{first}
use Rattle.laws.specs.Tabulate.{tabulate}
use Rattle.column.specs.Column.{has_roots}
use Rattle.sector.specs.DataFrame.{edc_right}
use Rattle.scrambling.specs.Scrambling.{scrambling_of, scrambled}
use Rattle.ldc.specs.Places.{word_in, frame_in}
use Rattle.bis.specs.Reading as Bis
use Rattle.cluster.specs.Multiplex.{ldc_in, bis_in}
use Rattle.sizes.specs.Sizes.{user_size}

-- ---- 15: the lowest LDC column without its 32 roots, or 304

-- LDC column L, as it is read in the cluster
abbrev pub ldc_column : List ℕ → ℕ → List ℕ
ldc_column work L = word_in (ldc_in work) L

unfoldable pub wrong_word : List ℕ → ℕ → Bool
wrong_word work L = not (has_roots 32 (ldc_column work L))

unfoldable pub first_wrong_word : List ℕ → ℕ
first_wrong_word work = first 304 (wrong_word work)

-- ---- 16: the lowest sector whose data frame, with the scrambling undone, has not its EDC, or 32

unfoldable pub data_frame_in : List ℕ → List ℕ → ℕ → List ℕ
data_frame_in stream work F = scrambled stream (frame_in (ldc_in work) F)

unfoldable pub wrong_sector : List ℕ → List ℕ → ℕ → Bool
wrong_sector stream work F = not (edc_right (data_frame_in stream work F))

unfoldable pub first_wrong_sector : List ℕ → List ℕ → ℕ
first_wrong_sector stream work = first 32 (wrong_sector stream work)

-- ---- the user bytes, 2,048 of each data frame

abbrev pub user_byte_in : List ℕ → List ℕ → ℕ → ℕ
user_byte_in stream work i = get_or (data_frame_in stream work (i / 2048)) (i % 2048) 0

unfoldable pub user_in : List ℕ → List ℕ → List ℕ
user_in stream work = tabulate user_size (user_byte_in stream work)

-- ---- a cluster in which nothing is wrong, with what is read in it

pub record Reads (work user : List ℕ) (psn : ℕ) (side : List ℕ) : Type 0 where
  pub bis : Bis.Reads (bis_in work) psn side
  pub right-words : first_wrong_word work ≡ 304
  pub right-sectors : first_wrong_sector (scrambling_of psn) work ≡ 32
  pub has-user : user_in (scrambling_of psn) work ≡ user
