-- Document 01, the tally: how often each gap length occurs between the first and the last one of a list of bits.
use Rattle.std.specs.Prelude.{Bool, false, ◌&&◌, cond, List, [], ◌∷◌, ℕ, zero, suc, eqb, get_or, drop}
use Rattle.laws.specs.Tabulate.{tabulate}

-- the lengths of the gaps up to the last one, of which the first has z zeros already
abbrev pub gaps_after : ℕ → List ℕ → List ℕ
gaps_after z [] = []
gaps_after z (zero ∷ l) = gaps_after (suc z) l
gaps_after z (suc b ∷ l) = z ∷ gaps_after 0 l

-- the lengths of the gaps between neighbouring ones
abbrev pub gaps : List ℕ → List ℕ
gaps [] = []
gaps (zero ∷ l) = gaps l
gaps (suc b ∷ l) = gaps_after 0 l

-- how often n stands in a list
abbrev pub count : ℕ → List ℕ → ℕ
count n [] = 0
count n (x ∷ l) = cond (eqb x n) (suc (count n l)) (count n l)

-- how often the gap lengths 1 to 8 occur
unfoldable pub gap_counts : List ℕ → List ℕ
gap_counts l = tabulate 8 (λ k. count (suc k) (gaps l))

-- ---- the same by places (proofs/Neighbours)

-- the first one of a list ends a gap of n zeros, of which z stand in front of the list
abbrev pub ends_gap : ℕ → ℕ → List ℕ → Bool
ends_gap z n [] = false
ends_gap z n (zero ∷ l) = ends_gap (suc z) n l
ends_gap z n (suc b ∷ l) = eqb z n

-- a one stands at i, and the next one behind n zeros
abbrev pub gap_at : List ℕ → ℕ → ℕ → Bool
gap_at l n i = eqb (get_or l i 0) 1 && ends_gap 0 n (drop (suc i) l)
