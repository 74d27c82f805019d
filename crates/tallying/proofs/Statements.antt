-- A table is printed for an accepted input alone. Assumes nothing.
use mathlib.Core.Path.{◌≡◌, refl}
use mathlib.Core.Bool.{Bool, true, false, cond}
use mathlib.Core.List.{◌++◌}
use native.Mathlib.Omega.{arith}
use lib.ListN.{get_or}
use Rattle.texts.specs.Text.{the}
use Rattle.gaps.specs.declared.Tally.{Tally}
use Rattle.tallying.specs.Table.{rows_from, tally_text}

pub table-only : (tally : Tally) → get_or (tally_text tally) 0 0 ≡ 103 → tally.accepted ≡ true
unfolding tally_text
table-only tally e = by tally.accepted e
  where
    by : (t : Bool) → get_or (cond t (the "gap count\n" ++ rows_from 1 tally.counts) (the "refused\n")) 0 0 ≡ 103 → t ≡ true
    by true e = refl
    by false e = absurd (omega arith)
