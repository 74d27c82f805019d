-- What is printed for a tally (document 01): a table of gap lengths and counts, or a refusal.
use Rattle.std.specs.Prelude.{true, false, cond, List, [], ◌∷◌, ◌++◌, ℕ, suc, replicate, Option, Some, None}
use Rattle.texts.specs.Text.{the}
use Rattle.texts.specs.Numbers.{decimal}
use Rattle.gaps.specs.declared.Tally.{Tally}

unfoldable pub row : ℕ → ℕ → List ℕ
row gap count = decimal gap ++ the " " ++ decimal count ++ the "\n"

-- the rows of the gap lengths from n on
unfoldable pub rows_from : ℕ → List ℕ → List ℕ
rows_from n [] = []
rows_from n (x ∷ counts) = row n x ++ rows_from (suc n) counts

unfoldable pub tally_text : Tally → List ℕ
tally_text tally = cond tally.accepted (the "gap count\n" ++ rows_from 1 tally.counts) (the "refused\n")

-- the tally of an input, from the counts that were found of it
abbrev pub tally_from : Option (List ℕ) → Tally
tally_from (Some counts) = record { accepted = true; counts = counts }
tally_from None = record { accepted = false; counts = replicate 8 0 }
