-- W-208. Assumes nothing.
use mathlib.Core.Path.{◌≡◌, refl, sym, ap, subst, ◌∙◌}
use mathlib.Core.Bool.{Bool, true, false, not}
use mathlib.Core.List.{List}
use Prim.Native.Nat.{ℕ, ◌+◌, ◌<◌, ◌≤◌}
use native.Mathlib.Omega.{arith}
use lib.ListN.{length}
use Rattle.laws.specs.Bytes.{Bytes}
use Rattle.laws.specs.Differing.{differing}
use Rattle.laws.proofs.Differing.{differing-self, Between, list-between}
use Rattle.column.specs.Column.{has_roots}
use Rattle.column.specs.Distance.{Right}
use Rattle.column.proofs.Roots.{has-roots}
use Rattle.column.proofs.Distance.{apart, near-once, distance_is, distance-once}
use Rattle.ldc.proofs.CodeWords.{length-word-in, bytes-word-in}
use Rattle.bis.specs.Reading.{wrong_column}
use Rattle.cluster.specs.EccCluster.{ecc_cluster}
use Rattle.cluster.specs.Multiplex.{ldc_index, ldc_in, column_in, bis_in}
use Rattle.cluster.specs.Reading.{ldc_column, wrong_word}
use Rattle.cluster.proofs.Multiplex.{block-column, is-block-in}
use Rattle.cluster.proofs.Statements.{ldc-right, bis-right, other_word}
use Rattle.image.specs.Image.{Input, IsAccepted, cluster}
use Rattle.distance.specs.Distance.{longest, distance, noticeable, correctable, ColumnsApart, Misleads, RetryLimits, ClustersApart, ClustersNoticed}

-- TWO DIFFERENT COLUMNS OF EQUAL LENGTH, 33 TO 255 BYTES, WHOSE PARITY IS RIGHT, DIFFER IN AT LEAST 33 BYTES
pub columns-apart : ColumnsApart
columns-apart =
    record {
      each-length = λ n long short. distance_is 32 n (omega arith) (omega arith);
      any-roots = λ r n long short. distance_is r n long (omega arith);
      only = distance-once;
    }

-- UP TO 32 WRONG BYTES OF A COLUMN ARE NOTICED, OR UP TO 16 CAN BE CORRECTED

-- a column that differs and has all its roots would differ in more
notices : (n : ℕ) → n ≤ longest → (w c : List ℕ) → length w ≡ n → Bytes w → Right 32 n c → 0 < differing w c → differing w c ≤ noticeable
    → (t : Bool) → has_roots 32 w ≡ t → t ≡ false
notices n short w c size bytes right some few false t = refl
notices n short w c size bytes right some few true t = absurd (omega (arith, far))
  where
    unlike : w ≡ c → ⊥
    unlike e = absurd (omega (arith, ap (differing w) (sym e) ∙ differing-self w))

    far : 32 < differing w c
    far = apart 32 n (omega arith) w c (record { size = size; bytes = bytes; roots = (has-roots 32 w).0 t }) right unlike

-- between c and a right column at the distance
misleads : (e f : ℕ) → e + f ≡ distance → (c : List ℕ) → 33 ≤ length c → length c ≤ 255 → Right 32 (length c) c → Misleads e f c
misleads e f sum c long short right =
    record {
      read = found.list;
      size = found.size;
      bytes = found.bytes;
      wrong = found.from_first;
      other = pair.0;
      right = pair.1;
      different = pair.2;
      near = omega (arith, found.from_second, pair.3);
    }
  where
    pair : (d : List ℕ) × Right 32 (length c) d × (c ≡ d → ⊥) × (differing c d ≡ 33)
    pair = (distance_is 32 (length c) long short).met c right

    found : Between c pair.0 f
    found = list-between c pair.0 (sym pair.1.size) right.bytes pair.1.bytes f (omega (arith, pair.3))

pub retry-limits : RetryLimits
retry-limits =
    record {
      noticed = λ w c long short bytes right some few. notices (length w) short w c refl bytes right some few (has_roots 32 w) refl;
      corrected = λ w c c' long short near near'. near-once 32 correctable correctable (omega arith) w c c' (omega arith) near near';
      both = λ e f most w c c' long short near near'. near-once 32 e f (omega arith) w c' c (omega arith) near' near;
      no_more = λ e f sum c long short right. misleads e f sum c (omega arith) (omega arith) right;
    }

-- TWO DIFFERENT USER CLUSTERS WITH THE SAME PSN AND SIDE DATA HAVE SOME LDC COLUMN THAT DIFFERS IN AT LEAST 33 PLACES

module _ (a : Input) (ha : IsAccepted a) where
  right-ldc : (L : ℕ) → L < 304 → Right 32 248 (ldc_column (cluster a) L)
  right-ldc = ldc-right a.user a.psn a.side ha.user ha.psn ha.side

  right-bis : (C : ℕ) → C < 24 → Right 32 62 (column_in (cluster a) C)
  right-bis = bis-right a.user a.psn a.side ha.user ha.psn ha.side

module _ (a b : Input) (ha : IsAccepted a) (hb : IsAccepted b) where
  each : (L : ℕ) → L < 304 → (ldc_column (cluster a) L ≡ ldc_column (cluster b) L → ⊥)
      → distance ≤ differing (ldc_column (cluster a) L) (ldc_column (cluster b) L)
  each L h different =
      omega (arith, apart 32 248 (omega arith) (ldc_column (cluster a) L) (ldc_column (cluster b) L) (right-ldc a ha L h) (right-ldc b hb L h) different)

  some : a.psn ≡ b.psn → (a.user ≡ b.user → ⊥) → (L : ℕ) × (L < 304) × (distance ≤ differing (ldc_column (cluster a) L) (ldc_column (cluster b) L))
  some same users = (found.0, found.1, each found.0 found.1 (λ e. found.2 (e ∙ sym (moved found.0))))
    where
      -- b under the PSN of a
      other : ℕ → List ℕ
      other = ldc_column (ecc_cluster b.user a.psn b.side)

      moved : (L : ℕ) → other L ≡ ldc_column (cluster b) L
      moved L = ap (λ (p : ℕ). ldc_column (ecc_cluster b.user p b.side) L) same

      found : (L : ℕ) × (L < 304) × (ldc_column (cluster a) L ≡ other L → ⊥)
      found = other_word a.user b.user a.side b.side a.psn ha.user hb.user ha.psn ha.side hb.side users

pub clusters-apart : ClustersApart
clusters-apart = record { each = each; some = some }

-- 1 TO 32 WRONG BYTES IN A COLUMN OF A CLUSTER MAKE TEST 15, OR 12, FAIL THERE

pub clusters-noticed : ClustersNoticed
clusters-noticed = record { ldc = ldc; bis = bis }
  where
    ldc : (a : Input) → IsAccepted a → (work : List ℕ) → Bytes work → (L : ℕ) → L < 304 → 0 < differing (ldc_column work L) (ldc_column (cluster a) L)
        → differing (ldc_column work L) (ldc_column (cluster a) L) ≤ noticeable → wrong_word work L ≡ true
    ldc a ha work bytes L h some few =
        unfold wrong_word in
        ap not (notices 248 (omega arith) (ldc_column work L) (ldc_column (cluster a) L) (length-word-in (ldc_in work) L)
        (bytes-word-in (ldc_in work) (λ row column hr hc. bytes (ldc_index row column)) L) (right-ldc a ha L h) some few (has_roots 32 (ldc_column work L)) refl)

    bis : (a : Input) → IsAccepted a → (work : List ℕ) → Bytes work → (C : ℕ) → C < 24 → 0 < differing (column_in work C) (column_in (cluster a) C)
        → differing (column_in work C) (column_in (cluster a) C) ≤ noticeable → wrong_column (bis_in work) C ≡ true
    bis a ha work bytes C h some few =
        unfold wrong_column in
        ap (λ (c : List ℕ). not (has_roots 32 c)) (block-column work C h)
        ∙ ap not (notices 62 (omega arith) (column_in work C) (column_in (cluster a) C) size all (right-bis a ha C h) some few (has_roots 32 (column_in work C)) refl)
      where
        size : length (column_in work C) ≡ 62
        size = ap length (sym (block-column work C h)) ∙ (is-block-in work bytes).size C h

        all : Bytes (column_in work C)
        all = subst Bytes (block-column work C h) ((is-block-in work bytes).bytes C h)
