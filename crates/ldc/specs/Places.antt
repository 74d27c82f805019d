-- 13.8 the other way (proofs/Interleaving): the place of each byte of the LDC block in the LDC cluster, and code words and data frames out of
-- a cluster.
use Rattle.std.specs.Prelude.{List, ℕ, ◌+◌, ◌*◌, ◌-◌, ◌/◌, ◌%◌}
use Rattle.laws.specs.Tabulate.{tabulate}
use Rattle.ldc.specs.declared.Place.{Place}

abbrev pub ldc_place : ℕ → ℕ → Place
ldc_place word byte = record { row = 2 * byte + word % 2; column = (word / 2 + 152 - 3 * byte % 152) % 152 }

-- the byte of a cluster, given by row and column, that stands at a place
abbrev pub at : (ℕ → ℕ → ℕ) → Place → ℕ
at cluster place = cluster place.row place.column

-- code word L of a cluster
unfoldable pub word_in : (ℕ → ℕ → ℕ) → ℕ → List ℕ
word_in cluster L = tabulate 248 (λ N. at cluster (ldc_place L N))

-- byte p of the data block, down the columns
abbrev pub data_in : (ℕ → ℕ → ℕ) → ℕ → ℕ
data_in cluster p = at cluster (ldc_place (p / 216) (p % 216))

-- scrambled data frame F of a cluster
unfoldable pub frame_in : (ℕ → ℕ → ℕ) → ℕ → List ℕ
frame_in cluster F = tabulate 2052 (λ k. data_in cluster (2052 * F + k))
