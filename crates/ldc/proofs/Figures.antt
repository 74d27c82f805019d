-- The entries that the standard prints of the data block (Figure 23) and the LDC cluster (Figure 26, where document 003's text is whole).
use mathlib.Core.Path.{◌≡◌, refl}
use mathlib.Core.List.{List, [], ◌∷◌, map}
use Prim.Native.Nat.{ℕ, ◌+◌, ◌*◌}
use native.Mathlib.Omega.{arith}
use Rattle.ldc.specs.LdcBlock.{frame_of, byte_of, data_index}
use Rattle.ldc.specs.LdcCluster.{shifted}

-- a row and a column
pub record At : Type 0 where
  pub row : ℕ
  pub column : ℕ

abbrev at : ℕ → ℕ → At
at row column = record { row = row; column = column }

-- an entry's two indices, as the figures print them
abbrev entry : ℕ → ℕ → List ℕ
entry a b = a ∷ b ∷ []

-- Figure 23: byte and data frame of what stands in the data block; data frame 0 ends inside column 9
pub figure-23 : map (λ (p : At). entry (byte_of (data_index p.column p.row)) (frame_of (data_index p.column p.row)))
    (at 0 0 ∷ at 0 1 ∷ at 0 9 ∷ at 0 10 ∷ at 0 18 ∷ at 0 19 ∷ at 0 303 ∷
    at 1 0 ∷ at 1 1 ∷ at 1 9 ∷ at 1 10 ∷ at 1 18 ∷ at 1 19 ∷ at 1 303 ∷
    at 106 9 ∷ at 107 9 ∷ at 108 9 ∷ at 109 9 ∷ at 214 9 ∷
    at 215 0 ∷ at 215 1 ∷ at 215 9 ∷ at 215 10 ∷ at 215 18 ∷ at 215 19 ∷ at 215 303 ∷ [])
    ≡ (entry 0 0 ∷ entry 216 0 ∷ entry 1944 0 ∷ entry 108 1 ∷ entry 1836 1 ∷ entry 0 2 ∷ entry 1836 31 ∷
    entry 1 0 ∷ entry 217 0 ∷ entry 1945 0 ∷ entry 109 1 ∷ entry 1837 1 ∷ entry 1 2 ∷ entry 1837 31 ∷
    entry 2050 0 ∷ entry 2051 0 ∷ entry 0 1 ∷ entry 1 1 ∷ entry 106 1 ∷
    entry 215 0 ∷ entry 431 0 ∷ entry 107 1 ∷ entry 323 1 ∷ entry 2051 1 ∷ entry 215 2 ∷ entry 2051 31 ∷ [])
figure-23 = refl

-- 13.5: every even data frame ends halfway down a column, and the odd one behind it starts there
pub halfway : (h : ℕ) → (2052 * (2 * h) + 2051 ≡ data_index (19 * h + 9) 107) × (2052 * (2 * h + 1) ≡ data_index (19 * h + 9) 108)
halfway h = (omega arith, omega arith)

-- Figure 26: byte and code word of what stands in the LDC cluster
pub figure-26 : map (λ (p : At). entry (shifted p.row p.column).byte (shifted p.row p.column).word)
    (at 0 0 ∷ at 0 1 ∷ at 0 150 ∷ at 0 151 ∷ at 1 0 ∷ at 1 1 ∷ at 1 150 ∷ at 1 151 ∷
    at 2 0 ∷ at 2 1 ∷ at 2 151 ∷ at 3 0 ∷ at 3 1 ∷ at 3 151 ∷ at 4 0 ∷ at 4 1 ∷ at 4 151 ∷ at 5 0 ∷ at 5 1 ∷
    at 100 0 ∷ at 100 1 ∷ at 100 151 ∷ at 101 0 ∷ at 101 1 ∷ at 101 151 ∷ at 102 0 ∷ at 102 1 ∷ at 102 151 ∷ at 103 0 ∷ at 103 1 ∷ at 103 151 ∷
    at 492 0 ∷ at 492 1 ∷ at 492 151 ∷ at 493 0 ∷ at 493 1 ∷ at 493 151 ∷ at 494 0 ∷ at 494 1 ∷ at 494 151 ∷ at 495 0 ∷ at 495 1 ∷ at 495 151 ∷ [])
    ≡ (entry 0 0 ∷ entry 0 2 ∷ entry 0 300 ∷ entry 0 302 ∷ entry 0 1 ∷ entry 0 3 ∷ entry 0 301 ∷ entry 0 303 ∷
    entry 1 6 ∷ entry 1 8 ∷ entry 1 4 ∷ entry 1 7 ∷ entry 1 9 ∷ entry 1 5 ∷ entry 2 12 ∷ entry 2 14 ∷ entry 2 10 ∷ entry 2 13 ∷ entry 2 15 ∷
    entry 50 300 ∷ entry 50 302 ∷ entry 50 298 ∷ entry 50 301 ∷ entry 50 303 ∷ entry 50 299 ∷ entry 51 2 ∷ entry 51 4 ∷ entry 51 0 ∷ entry 51 3 ∷ entry 51 5 ∷ entry 51 1 ∷
    entry 246 260 ∷ entry 246 262 ∷ entry 246 258 ∷ entry 246 261 ∷ entry 246 263 ∷ entry 246 259 ∷ entry 247 266 ∷ entry 247 268 ∷ entry 247 264 ∷ entry 247 267 ∷ entry 247 269 ∷ entry 247 265 ∷ [])
figure-26 = refl
