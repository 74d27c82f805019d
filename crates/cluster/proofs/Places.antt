-- Where the bytes of the LDC block stand in the ECC cluster: no two at one place, none in a column of the BIS cluster, and one at every
-- other. Assumes nothing.
use mathlib.Core.Path.{◌≡◌, sym, ap, ap₂, ◌∙◌}
use Prim.Native.Nat.{ℕ, ◌+◌, ◌*◌, ◌-◌, ◌/◌, ◌%◌, ◌<◌}
use native.Mathlib.Omega.{arith}
use Rattle.ldc.specs.LdcCluster.{Origin, shifted}
use Rattle.ldc.specs.Places.{ldc_place}
use Rattle.ldc.proofs.Interleaving.{shifted-word-lt, shifted-byte-lt, place-row, place-column, place-row-lt, place-column-lt, word-at-place, byte-at-place}
use Rattle.cluster.specs.Multiplex.{ldc_index, bis_index}
use Rattle.cluster.specs.steps.Places.{word_index}
use Rattle.cluster.proofs.Multiplex.{ldc-index-lt, ldc-index-row, ldc-index-byte, ldc-column, bis-index-row, bis-index-byte, index-of-ldc}

-- code word and byte of what stands at an index of the LDC cluster
abbrev pub origin_at : ℕ → Origin
origin_at k = shifted (k / 155) (k % 155 - k % 155 / 39)

pub origin-word-lt : (k : ℕ) → (origin_at k).word < 304
origin-word-lt k = shifted-word-lt (k / 155) (k % 155 - k % 155 / 39)

pub origin-byte-lt : (k : ℕ) → k < 76880 → (origin_at k).byte < 248
origin-byte-lt k h = shifted-byte-lt (k / 155) (k % 155 - k % 155 / 39) (omega arith)

-- it stands at its place
pub origin-place : (k : ℕ) → (k % 155 % 39 ≡ 38 → ⊥) → word_index (origin_at k).word (origin_at k).byte ≡ k
origin-place k e =
    let row = k / 155 in
    let column = k % 155 - k % 155 / 39 in
    ap₂ ldc_index (place-row row column (omega arith)) (place-column row column (omega arith)) ∙ index-of-ldc k e

module _ (L N : ℕ) (hL : L < 304) (hN : N < 248) where
  abbrev row : ℕ
  row = (ldc_place L N).row

  abbrev column : ℕ
  column = (ldc_place L N).column

  hr : row < 496
  hr = place-row-lt L N hN

  hc : column < 152
  hc = place-column-lt L N

  pub word-index-lt : word_index L N < 76880
  word-index-lt = ldc-index-lt row column hr hc

  pub no-bis : word_index L N % 155 % 39 ≡ 38 → ⊥
  no-bis e = (ldc-column column).0 (sym (ap (λ (j : ℕ). j % 39) (ldc-index-byte row column hr hc)) ∙ e)

  origin : origin_at (word_index L N) ≡ shifted row column
  origin = ap₂ shifted (ldc-index-row row column hr hc) (ap (λ (j : ℕ). j - j / 39) (ldc-index-byte row column hr hc) ∙ (ldc-column column).1)

  pub origin-word : (origin_at (word_index L N)).word ≡ L
  origin-word = ap (λ (o : Origin). o.word) origin ∙ word-at-place L N hL

  pub origin-byte : (origin_at (word_index L N)).byte ≡ N
  origin-byte = ap (λ (o : Origin). o.byte) origin ∙ byte-at-place L N hL

-- no two bytes stand at one place
pub word-index-inj : (L N M O : ℕ) → L < 304 → N < 248 → M < 304 → O < 248 → word_index L N ≡ word_index M O → (L ≡ M) × (N ≡ O)
word-index-inj L N M O hL hN hM hO e = (
  sym (origin-word L N hL hN) ∙ ap (λ (k : ℕ). (origin_at k).word) e ∙ origin-word M O hM hO,
  sym (origin-byte L N hL hN) ∙ ap (λ (k : ℕ). (origin_at k).byte) e ∙ origin-byte M O hM hO,
)

-- none stands where a byte of the BIS cluster does
pub word-no-bis : (L N r c : ℕ) → L < 304 → N < 248 → r < 496 → c < 3 → word_index L N ≡ bis_index r c → ⊥
word-no-bis L N r c hL hN hr hc e = no-bis L N hL hN (ap (λ (k : ℕ). k % 155 % 39) e ∙ ap (λ (j : ℕ). j % 39) (bis-index-byte r c hr hc) ∙ omega arith)

pub bis-index-inj : (r c r' c' : ℕ) → r < 496 → c < 3 → r' < 496 → c' < 3 → bis_index r c ≡ bis_index r' c' → (r ≡ r') × (c ≡ c')
bis-index-inj r c r' c' hr hc hr' hc' e =
    let byte : 39 * c + 38 ≡ 39 * c' + 38 = sym (bis-index-byte r c hr hc) ∙ ap (λ (k : ℕ). k % 155) e ∙ bis-index-byte r' c' hr' hc' in
    (sym (bis-index-row r c hr hc) ∙ ap (λ (k : ℕ). k / 155) e ∙ bis-index-row r' c' hr' hc', omega arith)
