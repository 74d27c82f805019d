-- The entries that the standard prints of the access block (Figure 31) and the BIS cluster (13.13, Figures 34 to 36).
-- Each table is as printed: a part of each line, recomputed from the other part by the definitions, is the same. Assumes nothing.
use mathlib.Core.Path.{◌≡◌, refl}
use mathlib.Core.List.{List, [], ◌∷◌, map}
use Prim.Native.Nat.{ℕ, ◌+◌, ◌*◌, ◌/◌, ◌%◌, ◌<◌, ◌≤◌}
use native.Mathlib.Omega.{arith}
use lib.ListN.{get_or}
use Rattle.laws.proofs.Finite.{all, all₂, equal-below₂, bounded-below₂}
use Rattle.bis.specs.AccessBlock.{row_of_af, column_of_af, control_at}
use Rattle.bis.specs.BisCluster.{unit_of, row_in_unit, bis_row, bis_column, word_byte_at, code_word_at}

abbrev at : List ℕ → ℕ → ℕ
at l i = get_or l i 0

-- ---- Figure 31

-- row, column, and the two indexes printed there
abbrev entry : ℕ → ℕ → ℕ → ℕ → List ℕ
entry row column x y = row ∷ column ∷ x ∷ y ∷ []

-- x and y of AF x,y
abbrev addresses : List (List ℕ)
addresses =
    entry 0 0 0 0 ∷ entry 0 1 1 0 ∷ entry 0 2 2 0 ∷ entry 0 3 0 7 ∷ entry 0 4 1 7 ∷ entry 0 5 2 7 ∷ entry 0 6 0 6 ∷ entry 0 7 1 6 ∷
    entry 0 8 2 6 ∷ entry 0 9 0 5 ∷ entry 0 21 0 1 ∷ entry 0 22 1 1 ∷ entry 0 23 2 1 ∷
    entry 1 0 0 8 ∷ entry 1 1 1 8 ∷ entry 1 2 2 8 ∷ entry 1 3 0 15 ∷ entry 1 6 0 14 ∷ entry 1 9 0 13 ∷ entry 1 21 0 9 ∷ entry 1 22 1 9 ∷
    entry 1 23 2 9 ∷
    entry 2 0 4 1 ∷ entry 2 1 5 1 ∷ entry 2 2 3 1 ∷ entry 2 3 4 0 ∷ entry 2 4 5 0 ∷ entry 2 5 3 0 ∷ entry 2 6 4 7 ∷ entry 2 7 5 7 ∷
    entry 2 8 3 7 ∷ entry 2 9 4 6 ∷ entry 2 21 4 2 ∷ entry 2 22 5 2 ∷ entry 2 23 3 2 ∷
    entry 3 0 4 9 ∷ entry 3 3 4 8 ∷ entry 3 4 5 8 ∷ entry 3 5 3 8 ∷ entry 3 6 4 15 ∷ entry 3 9 4 14 ∷ entry 3 21 4 10 ∷ entry 3 22 5 10 ∷
    entry 3 23 3 10 ∷
    entry 4 0 8 2 ∷ entry 4 1 6 2 ∷ entry 4 2 7 2 ∷ entry 4 3 8 1 ∷ entry 4 4 6 1 ∷ entry 4 5 7 1 ∷ entry 4 6 8 0 ∷ entry 4 7 6 0 ∷
    entry 4 8 7 0 ∷ entry 4 9 8 7 ∷ entry 4 21 8 3 ∷ entry 4 22 6 3 ∷ entry 4 23 7 3 ∷
    entry 5 0 8 10 ∷ entry 5 3 8 9 ∷ entry 5 6 8 8 ∷ entry 5 7 6 8 ∷ entry 5 8 7 8 ∷ entry 5 9 8 15 ∷ entry 5 21 8 11 ∷ entry 5 22 6 11 ∷
    entry 5 23 7 11 ∷
    []

pub figure-31-addresses : map (λ (l : List ℕ). entry (row_of_af (at l 2) (at l 3)) (column_of_af (at l 2) (at l 3)) (at l 2) (at l 3)) addresses ≡ addresses
figure-31-addresses = refl

-- j and S of UC j,S; UC 17,1 and UC 0,2, which our text has in column 0, are read as in column 1 (docs/DECISIONS)
abbrev control : List (List ℕ)
control =
    entry 6 0 0 0 ∷ entry 6 1 6 1 ∷ entry 6 2 12 2 ∷ entry 6 3 0 4 ∷ entry 6 23 12 30 ∷
    entry 11 2 17 2 ∷ entry 11 23 17 30 ∷ entry 12 2 0 3 ∷ entry 12 23 0 31 ∷
    entry 17 1 17 1 ∷ entry 18 1 0 2 ∷ entry 18 22 0 30 ∷
    entry 23 0 17 0 ∷ entry 23 3 17 4 ∷ entry 24 0 0 1 ∷ entry 24 3 0 5 ∷
    entry 29 0 5 1 ∷ entry 29 1 11 2 ∷ entry 29 2 17 3 ∷ entry 29 22 11 30 ∷ entry 29 23 17 31 ∷
    []

pub figure-31-control : map (λ (l : List ℕ). let k = control_at (at l 0) (at l 1) in entry (at l 0) (at l 1) (k % 18) (k / 18)) control ≡ control
figure-31-control = refl

-- ---- Figures 34 and 35

-- unit, row, and of the three bytes N,C there the number N, which they share, and C
abbrev line : ℕ → ℕ → ℕ → ℕ → ℕ → ℕ → List ℕ
line unit row N C₀ C₁ C₂ = unit ∷ row ∷ N ∷ C₀ ∷ C₁ ∷ C₂ ∷ []

abbrev first-units : List (List ℕ)
first-units =
    line 0 0 0 0 1 2 ∷ line 0 1 2 5 3 4 ∷ line 0 2 4 7 8 6 ∷ line 0 3 6 9 10 11 ∷ line 0 7 14 23 21 22 ∷ line 0 8 16 1 2 0 ∷
    line 0 30 60 18 19 20 ∷
    line 1 0 0 21 22 23 ∷ line 1 1 2 2 0 1 ∷ line 1 2 4 4 5 3 ∷ line 1 3 6 6 7 8 ∷
    line 2 0 0 18 19 20 ∷ line 2 1 2 23 21 22 ∷ line 2 2 4 1 2 0 ∷ line 2 3 6 3 4 5 ∷
    line 3 0 0 15 16 17 ∷ line 3 1 2 20 18 19 ∷ line 3 2 4 22 23 21 ∷ line 3 3 6 0 1 2 ∷
    line 4 0 0 12 13 14 ∷ line 4 1 2 17 15 16 ∷
    line 5 0 0 9 10 11 ∷ line 5 1 2 14 12 13 ∷
    line 6 0 0 6 7 8 ∷ line 6 1 2 11 9 10 ∷ line 6 2 4 13 14 12 ∷
    line 7 0 0 3 4 5 ∷ line 7 1 2 8 6 7 ∷ line 7 2 4 10 11 9 ∷ line 7 7 14 2 0 1 ∷ line 7 30 60 21 22 23 ∷
    []

abbrev last-units : List (List ℕ)
last-units =
    line 8 0 1 0 1 2 ∷ line 8 1 3 5 3 4 ∷ line 8 2 5 7 8 6 ∷ line 8 3 7 9 10 11 ∷ line 8 8 17 1 2 0 ∷ line 8 30 61 18 19 20 ∷
    line 9 0 1 21 22 23 ∷ line 10 0 1 18 19 20 ∷ line 11 0 1 15 16 17 ∷ line 12 0 1 12 13 14 ∷ line 13 0 1 9 10 11 ∷ line 14 0 1 6 7 8 ∷
    line 15 0 1 3 4 5 ∷ line 15 1 3 8 6 7 ∷ line 15 2 5 10 11 9 ∷ line 15 7 15 2 0 1 ∷ line 15 30 61 21 22 23 ∷
    []

abbrev mapped : List ℕ → List ℕ
mapped l = let row = 31 * at l 0 + at l 1 in line (at l 0) (at l 1) (word_byte_at row) (code_word_at row 0) (code_word_at row 1) (code_word_at row 2)

pub figure-34 : map mapped first-units ≡ first-units
figure-34 = refl

pub figure-35 : map mapped last-units ≡ last-units
figure-35 = refl

-- ---- 13.13's lists of units

-- row N of the BIS block stands in row r of these units, group after group of three bytes
abbrev groups : ℕ → ℕ → List ℕ → List ℕ
groups N r units = N ∷ r ∷ units

abbrev printed-units : List (List ℕ)
printed-units =
    groups 0 0 (0 ∷ 7 ∷ 6 ∷ 5 ∷ 4 ∷ 3 ∷ 2 ∷ 1 ∷ []) ∷
    groups 2 1 (1 ∷ 0 ∷ 7 ∷ 6 ∷ 5 ∷ 4 ∷ 3 ∷ 2 ∷ []) ∷
    groups 4 2 (2 ∷ 1 ∷ 0 ∷ 7 ∷ 6 ∷ 5 ∷ 4 ∷ 3 ∷ []) ∷
    groups 60 30 (6 ∷ 5 ∷ 4 ∷ 3 ∷ 2 ∷ 1 ∷ 0 ∷ 7 ∷ []) ∷
    []

pub unit-lists : map (λ (l : List ℕ). let N = at l 0 in groups N (row_in_unit N) (map (λ (g : ℕ). unit_of N (3 * g)) (0 ∷ 1 ∷ 2 ∷ 3 ∷ 4 ∷ 5 ∷ 6 ∷ 7 ∷ []))) printed-units
    ≡ printed-units
unit-lists = refl

-- ---- Figure 36: AF x,y stands in row x / 3 of address unit y, in column x % 3

module _ (x y : ℕ) (hx : x < 9) (hy : y < 16) where
  pub figure-36-row : bis_row (row_of_af x y) (column_of_af x y) ≡ 31 * y + x / 3
  unfolding all all₂
  figure-36-row = equal-below₂ 9 16 (λ x y. bis_row (row_of_af x y) (column_of_af x y)) (λ x y. 31 * y + x / 3) tt x y hx hy

  pub figure-36-column : bis_column (row_of_af x y) (column_of_af x y) ≡ x % 3
  unfolding all all₂
  figure-36-column = equal-below₂ 9 16 (λ x y. bis_column (row_of_af x y) (column_of_af x y)) (λ x y. x % 3) tt x y hx hy

-- ---- 13.13's conclusions: which rows of an address unit hold what

module _ (N C : ℕ) (hN : N < 62) (hC : C < 24) where
  row_in : bis_row N C % 31 ≡ row_in_unit N
  unfolding all all₂
  row_in = equal-below₂ 62 24 (λ N C. bis_row N C % 31) (λ N C. row_in_unit N) tt N C hN hC

  -- information bytes, b 0,C to b 29,C, in the first 15
  pub information-rows : N < 30 → bis_row N C % 31 < 15
  information-rows h = omega (arith, row_in)

  -- parity bytes, pb 30,C to pb 61,C, in the last 16
  pub parity-rows : 30 ≤ N → (15 ≤ bis_row N C % 31) × (bis_row N C % 31 < 31)
  parity-rows h = (omega (arith, row_in), omega arith)

-- each address field, in the first 3 of its own
module _ (x y : ℕ) (hx : x < 9) (hy : y < 16) where
  pub address-unit : bis_row (row_of_af x y) (column_of_af x y) / 31 ≡ y
  unfolding all all₂
  address-unit = equal-below₂ 9 16 (λ x y. bis_row (row_of_af x y) (column_of_af x y) / 31) (λ x y. y) tt x y hx hy

  pub address-rows : bis_row (row_of_af x y) (column_of_af x y) % 31 < 3
  unfolding all all₂
  address-rows = bounded-below₂ 9 16 3 (λ x y. bis_row (row_of_af x y) (column_of_af x y) % 31) tt x y hx hy
