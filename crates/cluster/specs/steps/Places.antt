-- Where a code word's bytes stand in the ECC cluster.
use Rattle.std.specs.Prelude.{ℕ}
use Rattle.ldc.specs.Places.{ldc_place}
use Rattle.cluster.specs.Multiplex.{ldc_index}

-- where byte N of LDC code word L stands
abbrev pub word_index : ℕ → ℕ → ℕ
word_index L N = ldc_index (ldc_place L N).row (ldc_place L N).column
