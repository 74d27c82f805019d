-- The code's tables are those of the definition: by a test that is computed. Assumes nothing.
use mathlib.Core.Path.{◌≡◌, ap, ◌∙◌}
use mathlib.Core.List.{List, []}
use Prim.Native.Nat.{ℕ, ◌<◌}
use lib.ListN.{get_or}
use Rattle.laws.specs.Tabulate.{tabulate}
use Rattle.laws.proofs.Tabulate.{get_d_tabulate}
use Rattle.modulation.specs.Machine.{wait_at}
use Rattle.modulation.specs.steps.Pairs.{two_of}
use Rattle.word_needs.specs.steps.Walk.{told, told_number, size_at_end}

-- ---- what a pair tells

unfoldable pub told_by : ℕ → List ℕ
told_by n = tabulate 4 (λ d. told_number (told (wait_at n) (two_of d)))

unfoldable pub told_table : List (List ℕ)
told_table = tabulate 10 told_by

pub told_is : (n d : ℕ) → n < 10 → d < 4 → get_or (get_or told_table n []) d 0 ≡ told_number (told (wait_at n) (two_of d))
unfolding told_table told_by
told_is n d hn hd =
    ap (λ (l : List ℕ). get_or l d 0) (get_d_tabulate 10 told_by n [] hn) ∙ get_d_tabulate 4 (λ d. told_number (told (wait_at n) (two_of d))) d 0 hd

-- ---- where the frame ends

unfoldable pub size_at_end_of : ℕ → ℕ
size_at_end_of k = size_at_end (wait_at k)

unfoldable pub end_table : List ℕ
end_table = tabulate 10 size_at_end_of

pub at-end-is : (n : ℕ) → n < 10 → get_or end_table n 0 ≡ size_at_end (wait_at n)
unfolding end_table size_at_end_of
at-end-is n h = get_d_tabulate 10 size_at_end_of n 0 h
