-- The mappings of 13.10 and 13.13 move each byte to exactly one place, that of the formulas: computed tests over all of them. Assumes nothing.
use mathlib.Core.Path.{◌≡◌, ap, ap₂}
use mathlib.Core.List.{List, []}
use Prim.Native.Nat.{ℕ, ◌+◌, ◌<◌}
use native.Mathlib.Omega.{arith}
use borrow.Author.Tests.{lt-ltb, le-ltb}
use lib.ListN.{get_or}
use Rattle.laws.proofs.Finite.{all, all₂, equal-below₂, bounded-below₂}
use Rattle.bis.specs.AccessBlock as Access
use Rattle.bis.specs.BisCluster as Bis

-- ---- 13.10: 16 × 9 bytes of address fields, 6 × 24 places

module _ (x y : ℕ) (hx : x < 9) (hy : y < 16) where
  pub field-there : Access.field_at (Access.row_of_af x y) (Access.column_of_af x y) ≡ y
  unfolding all all₂
  field-there = equal-below₂ 9 16 (λ x y. Access.field_at (Access.row_of_af x y) (Access.column_of_af x y)) (λ x y. y) tt x y hx hy

  pub byte-there : Access.byte_at (Access.row_of_af x y) (Access.column_of_af x y) ≡ x
  unfolding all all₂
  byte-there = equal-below₂ 9 16 (λ x y. Access.byte_at (Access.row_of_af x y) (Access.column_of_af x y)) (λ x y. x) tt x y hx hy

module _ (row column : ℕ) (hr : row < 6) (hc : column < 24) where
  pub field-at-lt : Access.field_at row column < 16
  unfolding all all₂
  field-at-lt = bounded-below₂ 6 24 16 Access.field_at tt row column hr hc

  pub byte-at-lt : Access.byte_at row column < 9
  unfolding all all₂
  byte-at-lt = bounded-below₂ 6 24 9 Access.byte_at tt row column hr hc

  pub row_back : Access.row_of_af (Access.byte_at row column) (Access.field_at row column) ≡ row
  unfolding all all₂
  row_back = equal-below₂ 6 24 (λ r c. Access.row_of_af (Access.byte_at r c) (Access.field_at r c)) (λ r c. r) tt row column hr hc

  pub column-back : Access.column_of_af (Access.byte_at row column) (Access.field_at row column) ≡ column
  unfolding all all₂
  column-back = equal-below₂ 6 24 (λ r c. Access.column_of_af (Access.byte_at r c) (Access.field_at r c)) (λ r c. c) tt row column hr hc

pub af-row-lt : (x y : ℕ) → x < 9 → y < 16 → Access.row_of_af x y < 6
unfolding all all₂
af-row-lt = bounded-below₂ 9 16 6 Access.row_of_af tt

pub af-column-lt : (x y : ℕ) → x < 9 → y < 16 → Access.column_of_af x y < 24
unfolding all all₂
af-column-lt = bounded-below₂ 9 16 24 Access.column_of_af tt

-- ---- 13.13: 24 × 62 bytes of the BIS block, 496 × 3 places of the BIS cluster

module _ (N C : ℕ) (hN : N < 62) (hC : C < 24) where
  pub bis-row-lt : Bis.bis_row N C < 496
  unfolding all all₂
  bis-row-lt = bounded-below₂ 62 24 496 Bis.bis_row tt N C hN hC

  pub bis-byte-there : Bis.word_byte_at (Bis.bis_row N C) ≡ N
  unfolding all all₂
  bis-byte-there = equal-below₂ 62 24 (λ n c. Bis.word_byte_at (Bis.bis_row n c)) (λ n c. n) tt N C hN hC

  pub bis-word-there : Bis.code_word_at (Bis.bis_row N C) (Bis.bis_column N C) ≡ C
  unfolding all all₂
  bis-word-there = equal-below₂ 62 24 (λ n c. Bis.code_word_at (Bis.bis_row n c) (Bis.bis_column n c)) (λ n c. c) tt N C hN hC

pub bis-column-lt : (N C : ℕ) → Bis.bis_column N C < 3
bis-column-lt N C = omega arith

module _ (row column : ℕ) (hr : row < 496) (hc : column < 3) where
  pub bis-byte-lt : Bis.word_byte_at row < 62
  bis-byte-lt = omega arith

  pub bis-word-lt : Bis.code_word_at row column < 24
  bis-word-lt = omega arith

  pub bis-row-back : Bis.bis_row (Bis.word_byte_at row) (Bis.code_word_at row column) ≡ row
  unfolding all all₂
  bis-row-back = equal-below₂ 496 3 (λ r c. Bis.bis_row (Bis.word_byte_at r) (Bis.code_word_at r c)) (λ r c. r) tt row column hr hc

  pub bis-column-back : Bis.bis_column (Bis.word_byte_at row) (Bis.code_word_at row column) ≡ column
  unfolding all all₂
  bis-column-back = equal-below₂ 496 3 (λ r c. Bis.bis_column (Bis.word_byte_at r) (Bis.code_word_at r c)) (λ r c. c) tt row column hr hc

-- ---- each byte stands where the formulas put it

-- byte x of address field y
pub field-place : (fields : List (List ℕ)) (side : List ℕ) (x y : ℕ) → x < 9 → y < 16
    → Access.access_byte fields side (Access.row_of_af x y) (Access.column_of_af x y) ≡ get_or (get_or fields y []) x 0
field-place fields side x y hx hy =
    rw (lt-ltb (Access.row_of_af x y) 6 (af-row-lt x y hx hy))
    (ap₂ (λ (f b : ℕ). get_or (get_or fields f []) b 0) (field-there x y hx hy) (byte-there x y hx hy))

-- byte k of the user control data
pub control-place : (fields : List (List ℕ)) (side : List ℕ) (k : ℕ)
    → Access.access_byte fields side (Access.row_of_uc k) (Access.column_of_uc k) ≡ get_or side (16 + k) 0
control-place fields side k =
    let place : 16 + Access.control_at (Access.row_of_uc k) (Access.column_of_uc k) ≡ 16 + k = omega arith in
    rw (le-ltb (Access.row_of_uc k) 6 (omega arith)) (ap (λ (j : ℕ). get_or side j 0) place)

-- byte N of code word C
pub word-place : (block : List (List ℕ)) (N C : ℕ) → N < 62 → C < 24 → Bis.bis_byte block (Bis.bis_row N C) (Bis.bis_column N C) ≡ get_or (get_or block C []) N 0
word-place block N C hN hC = ap₂ (λ (c n : ℕ). get_or (get_or block c []) n 0) (bis-word-there N C hN hC) (bis-byte-there N C hN hC)
