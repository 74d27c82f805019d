-- The rows of an ECC cluster, and a row shown of a lent slice. Assumes nothing.
use mathlib.Core.Path.{◌≡◌, ◌∙◌, ap, sym}
use mathlib.Core.List.{List, []}
use Prim.Native.Nat.{ℕ, ◌+◌, ◌*◌, ◌-◌, ◌<◌, ◌≤◌, ◌/◌, ◌%◌}
use native.Mathlib.Omega.{arith}
use borrow.Author.Tests.{eq-eqb, ne_eqb, le-leb, lt-leb}
use lib.ListN.{length, take, drop, get_or, length-drop}
use Rattle.cluster.specs.EccCluster.{shown_row, row_of}
use lib.Seq.{ext_get_or, get_or-take, get_or-drop, length-take-le}
use Rattle.laws.specs.Bytes.{Bytes}
use Rattle.laws.proofs.Bytes.{bytes_take, bytes_drop}

pub row-of-no-cluster : (work : List ℕ) (n : ℕ) → (length work ≡ 76880 → ⊥) → [] ≡ shown_row work n
row-of-no-cluster work n h = rw (ne_eqb (length work) 76880 h)

pub row-past-the-end : (work : List ℕ) (n : ℕ) → length work ≡ 76880 → 495 < n → [] ≡ shown_row work n
row-past-the-end work n h past = rw (eq-eqb (length work) 76880 h, lt-leb n 495 past)

pub row-shown : (work : List ℕ) (n : ℕ) → length work ≡ 76880 → n ≤ 495 → take (155 * n + 155 - 155 * n) (drop (155 * n) work) ≡ shown_row work n
row-shown work n h within =
    let size : 155 * n + 155 - 155 * n ≡ 155 = omega arith in
    rw (eq-eqb (length work) 76880 h, le-leb n 495 within, size)

-- ---- rows

pub length-row : (work : List ℕ) → length work ≡ 76880 → (n : ℕ) → n < 496 → length (row_of work n) ≡ 155
length-row work size n h = length-take-le 155 (drop (155 * n) work) (omega (arith, length-drop (155 * n) work))

pub bytes-row : (work : List ℕ) → Bytes work → (n : ℕ) → Bytes (row_of work n)
bytes-row work bytes n = bytes_take 155 (drop (155 * n) work) (bytes_drop (155 * n) work bytes)

-- the rows make the cluster
pub rows_same : (work work' : List ℕ) → length work ≡ 76880 → length work' ≡ 76880 → ((n : ℕ) → n < 496 → row_of work n ≡ row_of work' n) → work ≡ work'
rows_same work work' size size' rows = ext_get_or 0 work work' (size ∙ sym size') byte
  where
    in_row : (l : List ℕ) (i : ℕ) → get_or (row_of l (i / 155)) (i % 155) 0 ≡ get_or l i 0
    in_row l i =
        let whole : 155 * (i / 155) + i % 155 ≡ i = omega arith in
        get_or-take 155 (drop (155 * (i / 155)) l) (i % 155) 0 (omega arith) ∙ get_or-drop (155 * (i / 155)) l (i % 155) 0 ∙ ap (λ (k : ℕ). get_or l k 0) whole

    byte : (i : ℕ) → i < length work → get_or work i 0 ≡ get_or work' i 0
    byte i h = sym (in_row work i) ∙ ap (λ (r : List ℕ). get_or r (i % 155) 0) (rows (i / 155) (omega arith)) ∙ in_row work' i
