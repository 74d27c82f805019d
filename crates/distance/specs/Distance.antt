-- Document 02, W-208: how far apart two columns lie. The columns of 13.7 and 13.12 have 32 parity bytes, and so 32 roots.
use Rattle.std.specs.Prelude.{◌≡◌, true, false, List, ℕ, suc, ◌+◌, ◌<◌, ◌≤◌, length}
use Rattle.laws.specs.Bytes.{Bytes}
use Rattle.laws.specs.Differing.{differing}
use Rattle.column.specs.Column.{has_roots}
use Rattle.column.specs.Distance.{Right, Near, IsDistance}
use Rattle.bis.specs.Reading.{wrong_column}
use Rattle.cluster.specs.Multiplex.{column_in, bis_in}
use Rattle.cluster.specs.Reading.{ldc_column, wrong_word}
use Rattle.image.specs.Image.{Input, IsAccepted, cluster}

-- how many bytes a column has
abbrev pub shortest : ℕ
shortest = 33

abbrev pub longest : ℕ
longest = 255

-- in how many places two different columns of equal length differ at least
abbrev pub distance : ℕ
distance = 33

-- how many wrong bytes of a column are noticed, and how many can be corrected
abbrev pub noticeable : ℕ
noticeable = 32

abbrev pub correctable : ℕ
correctable = 16

-- ---- columns

pub record ColumnsApart : Type 0 where
  pub each-length : (n : ℕ) → shortest ≤ n → n ≤ longest → IsDistance 32 n distance
  -- with r roots it is r + 1
  pub any-roots : (r n : ℕ) → suc r ≤ n → n ≤ longest → IsDistance r n (suc r)
  -- and no other number is it
  pub only : (r n d d' : ℕ) → IsDistance r n d → IsDistance r n d' → d ≡ d'

-- ---- what it means for a column that is read, w

-- where 1 to m bytes of a right column c are wrong in w, they are noticed: w has not all its roots
abbrev pub Notices : ℕ → Type 0
Notices m = (w c : List ℕ) → shortest ≤ length w → length w ≤ longest → Bytes w → Right 32 (length w) c → 0 < differing w c → differing w c ≤ m
    → has_roots 32 w ≡ false

-- at most one right column lies within m bytes of w
abbrev pub OneWithin : ℕ → Type 0
OneWithin m = (w c c' : List ℕ) → shortest ≤ length w → length w ≤ longest → Near 32 m w c → Near 32 m w c' → c ≡ c'

-- who corrects up to e bytes is led to no column but c where up to m - e bytes of it are wrong
abbrev pub Trades : ℕ → Type 0
Trades m = (e f : ℕ) → e + f ≤ m → (w c c' : List ℕ) → shortest ≤ length w → length w ≤ longest → Near 32 f w c → Near 32 e w c' → c' ≡ c

-- f bytes of c can be wrong so that another right column differs from what is read in just e
pub record Misleads (e f : ℕ) (c : List ℕ) : Type 0 where
  pub read : List ℕ
  pub size : length read ≡ length c
  pub bytes : Bytes read
  pub wrong : differing read c ≡ f
  pub other : List ℕ
  pub right : Right 32 (length c) other
  pub different : c ≡ other → ⊥
  pub near : differing read other ≡ e

pub record RetryLimits : Type 0 where
  pub noticed : Notices noticeable
  pub corrected : OneWithin correctable
  pub both : Trades noticeable
  -- and no more, whatever the right column
  pub no_more : (e f : ℕ) → e + f ≡ distance → (c : List ℕ) → shortest ≤ length c → length c ≤ longest → Right 32 (length c) c → Misleads e f c

-- ---- clusters

-- of the ECC clusters (`ecc_cluster`) of two accepted inputs, whatever their dc words and #, which no ECC cluster has
pub record ClustersApart : Type 0 where
  -- an LDC column that is not the same in both differs in at least 33 places
  pub each : (a b : Input) → IsAccepted a → IsAccepted b → (L : ℕ) → L < 304 → (ldc_column (cluster a) L ≡ ldc_column (cluster b) L → ⊥)
      → distance ≤ differing (ldc_column (cluster a) L) (ldc_column (cluster b) L)
  -- under one PSN, where the user bytes differ, there is such a column, whatever the side data
  pub some : (a b : Input) → IsAccepted a → IsAccepted b → a.psn ≡ b.psn → (a.user ≡ b.user → ⊥)
      → (L : ℕ) × (L < 304) × (distance ≤ differing (ldc_column (cluster a) L) (ldc_column (cluster b) L))

-- of a cluster that is read, work, where 1 to 32 bytes of a column of an accepted input are wrong in it: test 15, or 12, fails there
pub record ClustersNoticed : Type 0 where
  pub ldc : (a : Input) → IsAccepted a → (work : List ℕ) → Bytes work → (L : ℕ) → L < 304
      → 0 < differing (ldc_column work L) (ldc_column (cluster a) L) → differing (ldc_column work L) (ldc_column (cluster a) L) ≤ noticeable
      → wrong_word work L ≡ true
  pub bis : (a : Input) → IsAccepted a → (work : List ℕ) → Bytes work → (C : ℕ) → C < 24
      → 0 < differing (column_in work C) (column_in (cluster a) C) → differing (column_in work C) (column_in (cluster a) C) ≤ noticeable
      → wrong_column (bis_in work) C ≡ true
