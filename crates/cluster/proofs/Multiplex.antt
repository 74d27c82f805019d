-- The LDC cluster and the BIS block come out of the ECC cluster again, and an ECC cluster is made of what comes out. Assumes nothing.
use mathlib.Core.Path.{◌≡◌, sym, ap, ap₂, subst, ◌∙◌}
use mathlib.Core.List.{List, []}
use Prim.Native.Nat.{ℕ, ◌+◌, ◌*◌, ◌-◌, ◌/◌, ◌%◌, ◌<◌}
use native.Mathlib.Decide.{ℕ_discrete}
use native.Mathlib.Omega.{arith}
use borrow.Author.Tests.{eq-eqb, ne_eqb}
use lib.ListN.{length, get_or}
use Rattle.laws.specs.Bytes.{Bytes}
use Rattle.laws.specs.Tabulate.{tabulate}
use Rattle.laws.proofs.Bytes.{bytes-tabulate}
use Rattle.laws.proofs.Tabulate.{length-tabulate, get_d_tabulate, is-tabulate, tabulate-ext}
use Rattle.bis.specs.BisBlock.{Block}
use Rattle.bis.specs.BisCluster as Bis
use Rattle.bis.proofs.Mapping.{bis-row-lt, bis-byte-there, bis-word-there, bis-column-lt, bis-byte-lt, bis-word-lt, bis-row-back, bis-column-back}
use Rattle.cluster.specs.Multiplex.{row_byte, multiplexed, ldc_index, bis_index, ldc_in, column_in, bis_in}

-- ---- indexes

module _ (row column : ℕ) (hr : row < 496) (hc : column < 152) where
  pub ldc-index-lt : ldc_index row column < 76880
  ldc-index-lt = omega arith

  pub ldc-index-row : ldc_index row column / 155 ≡ row
  ldc-index-row = omega arith

  pub ldc-index-byte : ldc_index row column % 155 ≡ column + column / 38
  ldc-index-byte = omega arith

-- no byte of the LDC cluster stands in a column of the BIS cluster
pub ldc-column : (column : ℕ) → ((column + column / 38) % 39 ≡ 38 → ⊥) × ((column + column / 38) - (column + column / 38) / 39 ≡ column)
ldc-column column = (λ e. omega arith, omega arith)

module _ (row column : ℕ) (hr : row < 496) (hc : column < 3) where
  pub bis-index-lt : bis_index row column < 76880
  bis-index-lt = omega arith

  pub bis-index-row : bis_index row column / 155 ≡ row
  bis-index-row = omega arith

  pub bis-index-byte : bis_index row column % 155 ≡ 39 * column + 38
  bis-index-byte = omega arith

-- an index is that of a byte of the one or of the other
pub index-of-bis : (k : ℕ) → k % 155 % 39 ≡ 38 → bis_index (k / 155) (k % 155 / 39) ≡ k
index-of-bis k e = omega arith

pub index-of-ldc : (k : ℕ) → (k % 155 % 39 ≡ 38 → ⊥) → ldc_index (k / 155) (k % 155 - k % 155 / 39) ≡ k
index-of-ldc k e = omega arith

-- ---- what was multiplexed comes out again

pub length-multiplexed : (ldc : ℕ → ℕ → ℕ) (block : List (List ℕ)) → length (multiplexed ldc block) ≡ 76880
unfolding multiplexed
length-multiplexed ldc block = length-tabulate 76880 (λ k. row_byte ldc block (k / 155) (k % 155))

pub get_d-multiplexed : (ldc : ℕ → ℕ → ℕ) (block : List (List ℕ)) (k : ℕ) → k < 76880 → get_or (multiplexed ldc block) k 0 ≡ row_byte ldc block (k / 155) (k % 155)
unfolding multiplexed
get_d-multiplexed ldc block k h = get_d_tabulate 76880 (λ k. row_byte ldc block (k / 155) (k % 155)) k 0 h

module _ (ldc : ℕ → ℕ → ℕ) (block : List (List ℕ)) (row column : ℕ) (hr : row < 496) where
  -- the byte at an index of the LDC cluster
  pub ldc-row-byte : column < 152 → row_byte ldc block (ldc_index row column / 155) (ldc_index row column % 155) ≡ ldc row column
  ldc-row-byte hc =
      let j = column + column / 38 in
      ap₂ (row_byte ldc block) (ldc-index-row row column hr hc) (ldc-index-byte row column hr hc)
      ∙ rw (ne_eqb (j % 39) 38 (ldc-column column).0) (ap (ldc row) (ldc-column column).1)

  -- the byte at an index of the BIS cluster
  pub bis-row-byte : column < 3 → row_byte ldc block (bis_index row column / 155) (bis_index row column % 155) ≡ Bis.bis_byte block row column
  bis-row-byte hc =
      let j = 39 * column + 38 in
      let last : j % 39 ≡ 38 = omega arith in
      let group : j / 39 ≡ column = omega arith in
      ap₂ (row_byte ldc block) (bis-index-row row column hr hc) (bis-index-byte row column hr hc)
      ∙ rw (eq-eqb (j % 39) 38 last) (ap (Bis.bis_byte block row) group)

pub ldc-back : (ldc : ℕ → ℕ → ℕ) (block : List (List ℕ)) (row column : ℕ) → row < 496 → column < 152 → ldc_in (multiplexed ldc block) row column ≡ ldc row column
ldc-back ldc block row column hr hc =
    get_d-multiplexed ldc block (ldc_index row column) (ldc-index-lt row column hr hc) ∙ ldc-row-byte ldc block row column hr hc

pub bis-back : (ldc : ℕ → ℕ → ℕ) (block : List (List ℕ)) → Block block → bis_in (multiplexed ldc block) ≡ block
unfolding bis_in column_in
bis-back ldc block is = sym (is-tabulate [] 24 (λ C. tabulate 62 (byte C)) block is.columns (λ C hC. is-tabulate 0 62 (byte C) (get_or block C []) (is.size C hC) (λ N hN. sym (there N C hN hC))))
  where
    byte : ℕ → ℕ → ℕ
    byte C N = get_or (multiplexed ldc block) (bis_index (Bis.bis_row N C) (Bis.bis_column N C)) 0

    there : (N C : ℕ) → N < 62 → C < 24 → byte C N ≡ get_or (get_or block C []) N 0
    there N C hN hC =
        let row = Bis.bis_row N C in
        let column = Bis.bis_column N C in
        get_d-multiplexed ldc block (bis_index row column) (bis-index-lt row column (bis-row-lt N C hN hC) (bis-column-lt N C))
        ∙ bis-row-byte ldc block row column (bis-row-lt N C hN hC) (bis-column-lt N C)
        ∙ ap₂ (λ (c n : ℕ). get_or (get_or block c []) n 0) (bis-word-there N C hN hC) (bis-byte-there N C hN hC)

-- ---- 76,880 bytes are what they are made of

-- a column of the block is the one that stands there
pub block-column : (work : List ℕ) (C : ℕ) → C < 24 → get_or (bis_in work) C [] ≡ column_in work C
unfolding bis_in
block-column work C h = get_d_tabulate 24 (column_in work) C [] h

pub is-block-in : (work : List ℕ) → Bytes work → Block (bis_in work)
unfolding bis_in column_in
is-block-in work bytes =
    record {
      columns = length-tabulate 24 (column_in work);
      size = λ C h. ap (length {A = ℕ}) (block-column work C h) ∙ length-tabulate 62 (byte C);
      bytes = λ C h. subst (λ (l : List ℕ). Bytes l) (sym (block-column work C h)) (bytes-tabulate 62 (byte C) (λ N _. bytes (bis_index (Bis.bis_row N C) (Bis.bis_column N C))));
    }
  where
    byte : ℕ → ℕ → ℕ
    byte C N = get_or work (bis_index (Bis.bis_row N C) (Bis.bis_column N C)) 0

-- byte N of column C of the block
pub get_d-block-in : (work : List ℕ) (N C : ℕ) → N < 62 → C < 24 → get_or (get_or (bis_in work) C []) N 0 ≡ get_or work (bis_index (Bis.bis_row N C) (Bis.bis_column N C)) 0
unfolding column_in
get_d-block-in work N C hN hC =
    ap (λ (l : List ℕ). get_or l N 0) (block-column work C hC)
    ∙ get_d_tabulate 62 (λ N. get_or work (bis_index (Bis.bis_row N C) (Bis.bis_column N C)) 0) N 0 hN

pub multiplexed-back : (work : List ℕ) → length work ≡ 76880 → multiplexed (ldc_in work) (bis_in work) ≡ work
unfolding multiplexed
multiplexed-back work size = sym (is-tabulate 0 76880 (λ k. row_byte (ldc_in work) (bis_in work) (k / 155) (k % 155)) work size (λ k h. sym (there k h)))
  where
    in-bis : (k : ℕ) → k < 76880 → k % 155 % 39 ≡ 38 → Bis.bis_byte (bis_in work) (k / 155) (k % 155 / 39) ≡ get_or work k 0
    in-bis k h e =
        let row = k / 155 in
        let column = k % 155 / 39 in
        let hr : row < 496 = omega arith in
        let hc : column < 3 = omega arith in
        get_d-block-in work (Bis.word_byte_at row) (Bis.code_word_at row column) (bis-byte-lt row column hr hc) (bis-word-lt row column hr hc)
        ∙ ap₂ (λ (r c : ℕ). get_or work (bis_index r c) 0) (bis-row-back row column hr hc) (bis-column-back row column hr hc)
        ∙ ap (λ (i : ℕ). get_or work i 0) (index-of-bis k e)

    there : (k : ℕ) → k < 76880 → row_byte (ldc_in work) (bis_in work) (k / 155) (k % 155) ≡ get_or work k 0
    there k h =
        elim (ℕ_discrete (k % 155 % 39) 38) [
          | yes e ↦ rw (eq-eqb (k % 155 % 39) 38 e) (in-bis k h e)
          | no e ↦ rw (ne_eqb (k % 155 % 39) 38 e) (ap (λ (i : ℕ). get_or work i 0) (index-of-ldc k e))
        ]

-- two LDC clusters that agree at every row and column multiplex to one ECC cluster
pub multiplexed-ext : (ldc ldc' : ℕ → ℕ → ℕ) (block : List (List ℕ)) → ((row column : ℕ) → row < 496 → column < 152 → ldc row column ≡ ldc' row column)
    → multiplexed ldc block ≡ multiplexed ldc' block
unfolding multiplexed
multiplexed-ext ldc ldc' block agree = tabulate-ext 0 76880 (λ k. row_byte ldc block (k / 155) (k % 155)) (λ k. row_byte ldc' block (k / 155) (k % 155)) same
  where
    same : (k : ℕ) → k < 76880 → row_byte ldc block (k / 155) (k % 155) ≡ row_byte ldc' block (k / 155) (k % 155)
    same k h =
        elim (ℕ_discrete (k % 155 % 39) 38) [
          | yes e ↦ rw (eq-eqb (k % 155 % 39) 38 e)
          | no e ↦ rw (ne_eqb (k % 155 % 39) 38 e) (agree (k / 155) (k % 155 - k % 155 / 39) (omega arith) (omega arith))
        ]

-- what is multiplexed from bytes is bytes
pub bytes-multiplexed : (ldc : ℕ → ℕ → ℕ) (block : List (List ℕ)) → ((row column : ℕ) → row < 496 → column < 152 → ldc row column < 256) → Block block → Bytes (multiplexed ldc block)
unfolding multiplexed
bytes-multiplexed ldc block bytes is = bytes-tabulate 76880 (λ k. row_byte ldc block (k / 155) (k % 155)) byte
  where
    byte : (k : ℕ) → k < 76880 → row_byte ldc block (k / 155) (k % 155) < 256
    byte k h =
        elim (ℕ_discrete (k % 155 % 39) 38) [
          | yes e ↦
              rw (eq-eqb (k % 155 % 39) 38 e)
              (is.bytes (Bis.code_word_at (k / 155) (k % 155 / 39)) (bis-word-lt (k / 155) (k % 155 / 39) (omega arith) (omega arith)) (Bis.word_byte_at (k / 155)))
          | no e ↦ rw (ne_eqb (k % 155 % 39) 38 e) (bytes (k / 155) (k % 155 - k % 155 / 39) (omega arith) (omega arith))
        ]
