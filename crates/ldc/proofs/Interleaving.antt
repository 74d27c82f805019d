-- The two interleavings move each of the 304 × 248 = 75,392 bytes to exactly one of the 496 × 152 places. Assumes nothing.
use mathlib.Core.Path.{◌≡◌}
use Prim.Native.Nat.{ℕ, ◌+◌, ◌*◌, ◌-◌, ◌/◌, ◌%◌, ◌<◌}
use native.Mathlib.Omega.{arith}
use Rattle.ldc.specs.LdcCluster.{shifted}
use Rattle.ldc.specs.Places.{ldc_place}

-- ---- places and bytes stay within their arrays

pub place-row-lt : (word byte : ℕ) → byte < 248 → (ldc_place word byte).row < 496
place-row-lt word byte h = omega arith

pub place-column-lt : (word byte : ℕ) → (ldc_place word byte).column < 152
place-column-lt word byte = omega arith

pub shifted-word-lt : (row column : ℕ) → (shifted row column).word < 304
shifted-word-lt row column = omega arith

pub shifted-byte-lt : (row column : ℕ) → row < 496 → (shifted row column).byte < 248
shifted-byte-lt row column h = omega arith

-- ---- a row is twice the byte's number, and one more for an odd code word

module _ (byte p : ℕ) (h : p < 2) where
  half : (2 * byte + p) / 2 ≡ byte
  half = omega arith

  odd : (2 * byte + p) % 2 ≡ p
  odd = omega arith

-- a cyclic shift and the shift back
shift_back : (x s : ℕ) → x < 152 → s < 152 → ((x + 152 - s) % 152 + s) % 152 ≡ x
shift_back x s hx hs = omega arith

shift-there : (x s : ℕ) → x < 152 → s < 152 → ((x + s) % 152 + 152 - s) % 152 ≡ x
shift-there x s hx hs = omega arith

-- ---- what stands at a byte's place is that byte

module _ (word byte : ℕ) (h : word < 304) where
  pub byte-at-place : (shifted (ldc_place word byte).row (ldc_place word byte).column).byte ≡ byte
  byte-at-place = half byte (word % 2) (omega arith)

  pub word-at-place : (shifted (ldc_place word byte).row (ldc_place word byte).column).word ≡ word
  word-at-place =
      simp (half byte (word % 2) (omega arith), odd byte (word % 2) (omega arith), shift_back (word / 2) (3 * byte % 152) (omega arith) (omega arith))
      (omega arith)

-- ---- and each place is the place of the byte that stands there

module _ (row column : ℕ) (h : column < 152) where
  pub place-row : (ldc_place (shifted row column).word (shifted row column).byte).row ≡ row
  place-row = simp (odd ((column + 3 * (row / 2) % 152) % 152) (row % 2) (omega arith)) (omega arith)

  pub place-column : (ldc_place (shifted row column).word (shifted row column).byte).column ≡ column
  place-column =
      simp (half ((column + 3 * (row / 2) % 152) % 152) (row % 2) (omega arith))
      (shift-there column (3 * (row / 2) % 152) h (omega arith))
