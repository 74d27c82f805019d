-- A row of Figure 38 as the code's table has it.
use Rattle.std.specs.Prelude.{◌≡◌, ℕ, ◌<◌, ◌≤◌, length}
use Rattle.bits.specs.Bits.{number}
use Rattle.modulation.specs.Modulation.{Row, When, always, after_one, after-zero, before-010, at-end, row_at}
use Rattle.modulation.specs.Bits.{data_bits, bits}
use Rattle.conversion.specs.declared.Row.{Row as CodeRow}
use Rattle.conversion.specs.declared.When.{When as CodeWhen}
use Rattle.conversion.specs.declared.When.TheVariants.{Always, AfterOne, AfterZero, Before010, AtEnd}

abbrev pub coded_when : When → CodeWhen
coded_when always = Always
coded_when after_one = AfterOne
coded_when after-zero = AfterZero
coded_when before-010 = Before010
coded_when at-end = AtEnd

-- how many pairs, the data bits and the modulation bits as numbers, and the condition
abbrev pub coded : Row → CodeRow
coded r = record { pairs = length r.pairs; data_bits = number (data_bits r.pairs); modulation_bits = number (bits r.groups); when = coded_when r.when }

-- r is row k
pub record IsRow (k : ℕ) (r : CodeRow) : Type 0 where
  pub below : k < 16
  pub is : r ≡ coded (row_at k)

-- row k has n pairs and as many groups, 1 to 4
pub record Sized (k n : ℕ) : Type 0 where
  pub pairs-are : n ≡ length (row_at k).pairs
  pub groups-are : n ≡ length (row_at k).groups
  pub some : 1 ≤ n
  pub most : n < 5
