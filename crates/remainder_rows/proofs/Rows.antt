-- The table, row by row: each follows from the row of its byte with one zero less behind it. Assumes nothing.
use mathlib.Core.Path.{◌≡◌, sym, ap, ap₂, ◌∙◌, subst}
use mathlib.Core.List.{List, [], ◌∷◌}
use Prim.Native.Nat.{ℕ, suc, ◌+◌, ◌*◌, ◌/◌, ◌%◌, ◌<◌, ◌≤◌}
use native.Mathlib.Nat.{not-suc-le-zero}
use native.Mathlib.Omega.{arith}
use borrow.Author.Count.{below_more}
use lib.ListN.{length, get_or, set, take, length-set}
use lib.Seq.{ext_get_or, get_or-take, get_or-set_same, get_or-set_other}
use Rattle.laws.specs.Tabulate.{tabulate}
use Rattle.column.specs.Column.{pushed, remainder, parity}
use Rattle.register.specs.steps.Register.{leaves, divisor, FirstTable, Padded}
use Rattle.remainder_rows.specs.steps.Rows.{remainder_at, EntriesFrom, FilledTo}
use Rattle.column.proofs.Register.{remainder-append}
use Rattle.column.proofs.Linear.{zeros-snoc}
use Rattle.register.proofs.Eight.{Filling, length-divisor, length-leaves, register-length}

-- byte j of what b leaves with k zeros behind it
pub entry_at : (k b j : ℕ) → b < 256 → j < 32 → remainder_at (8192 * k + 32 * b + j) ≡ get_or (leaves k b) j 0
unfolding remainder_at
entry_at k b j hb hj =
    ap₂ (λ (x y : ℕ). get_or (leaves x y) ((8192 * k + 32 * b + j) % 32) 0) zeros byte ∙ ap (λ (z : ℕ). get_or (leaves k b) z 0) place
  where
    zeros : (8192 * k + 32 * b + j) / 8192 ≡ k
    zeros = omega arith

    byte : (8192 * k + 32 * b + j) % 8192 / 32 ≡ b
    byte = omega arith

    place : (8192 * k + 32 * b + j) % 32 ≡ j
    place = omega arith

-- ---- the first rows

-- an entry of the first rows
pub first-at : (table : List ℕ) (b j : ℕ) → get_or table (32 * b + j) 0 ≡ get_or table (8192 * 0 + 32 * b + j) 0
first-at table b j = ap (λ (n : ℕ). get_or table n 0) (let q : 32 * b + j ≡ 8192 * 0 + 32 * b + j = omega arith in q)

pub filled-first : {m : ℕ} {table : List ℕ} → 8192 ≤ m → FilledTo m table → FirstTable table
filled-first {m} {table} h filled =
    record { at = λ b j hb hj. first-at table b j ∙ filled.below (8192 * 0 + 32 * b + j) (omega arith) ∙ entry_at 0 b j hb hj }

-- ---- a row is put

pub filled-less : {table : List ℕ} {m n : ℕ} → m ≤ n → FilledTo n table → FilledTo m table
filled-less h filled = record { size = filled.size; below = λ k q. filled.below k (omega arith) }

pub filled_none : {table : List ℕ} → length table ≡ 65536 → FilledTo (32 * 0) table
filled_none e = record { size = e; below = λ k q. absurd (not-suc-le-zero q) }

pub put-more : {table row : List ℕ} {at j v : ℕ} → j < 32 → at + 32 ≤ 65536 → EntriesFrom at row → v ≡ get_or row j 0
    → FilledTo (at + j) table → FilledTo (at + (j + 1)) (set table (at + j) v)
put-more {table} {row} {at} {j} {v} hj h right e filled =
    record {
      size = length-set table (at + j) v ∙ filled.size;
      below = λ k q. more k (omega arith);
    }
  where
    more : (k : ℕ) → k < at + j + 1 → get_or (set table (at + j) v) k 0 ≡ remainder_at k
    more =
        below_more (λ k. get_or (set table (at + j) v) k 0 ≡ remainder_at k) (at + j)
        (λ k lt. get_or-set_other table (at + j) k v 0 (λ q. omega (arith, q)) ∙ filled.below k lt)
        (get_or-set_same table (at + j) v 0 (omega (arith, filled.size)) ∙ e ∙ right.byte j hj)

-- ---- a row is made

pub row_is : {row : List ℕ} {b c : ℕ} → c ≡ b → EntriesFrom (32 * c) row → EntriesFrom (32 * b) row
row_is {row} e right = subst (λ (k : ℕ). EntriesFrom (32 * k) row) e right

-- what b leaves with k zeros behind it
row-leaves : {row : List ℕ} (k b : ℕ) → b < 256 → 32 ≤ length row → ((j : ℕ) → j < 32 → get_or row j 0 ≡ get_or (leaves k b) j 0) → EntriesFrom (8192 * k + 32 * b) row
row-leaves k b hb size right = record { size = size; byte = λ j q. right j q ∙ sym (entry_at k b j hb q) }

pub row_first : {g row zeros : List ℕ} {b : ℕ} → g ≡ divisor → zeros ≡ tabulate 32 (λ _. 0) → b < 256 → row ≡ pushed g zeros b
    → (length row ≡ 32) × EntriesFrom (32 * b) row
unfolding leaves parity remainder tabulate
row_first {g} {row} {zeros} {b} eg ez hb e = (
  size,
  subst (λ (n : ℕ). EntriesFrom n row) (let q : 8192 * 0 + 32 * b ≡ 32 * b = omega arith in q)
      (row-leaves 0 b hb (omega (arith, size)) (λ j q. ap (λ (l : List ℕ). get_or l j 0) right)),
)
  where
    right : row ≡ leaves 0 b
    right = e ∙ ap₂ (λ (l z : List ℕ). pushed l z b) eg ez

    size : length row ≡ 32
    size = ap length right ∙ length-leaves 0 b

pub row_copied : {table row : List ℕ} {at j : ℕ} → 32 ≤ j → FilledTo (at + 32) table → Filling (λ k. get_or table (at + k) 0) j row → EntriesFrom at row
row_copied {table} {row} {at} h filled filling =
    record {
      size = omega (arith, filling.padded.size);
      byte = λ j q. filling.below j (omega arith) ∙ filled.below (at + j) (omega arith);
    }

-- one zero more
leaves-more : (k b : ℕ) → remainder divisor (leaves k b) (0 ∷ []) ≡ leaves (suc k) b
unfolding leaves parity
leaves-more k b =
    sym (remainder-append divisor (tabulate 32 (λ _. 0)) (b ∷ tabulate k (λ _. 0)) (0 ∷ []))
    ∙ ap (λ (l : List ℕ). remainder divisor (tabulate 32 (λ _. 0)) (b ∷ l)) (zeros-snoc k)

pub row_next : {here next : List ℕ} (k b : ℕ) → b < 256 → Padded here → EntriesFrom (8192 * k + 32 * b) here → Padded next
    → take 32 next ≡ remainder divisor (take 32 here) (0 ∷ []) → EntriesFrom (8192 * k + 32 * b + 8192) next
row_next {here} {next} k b hb padded row padded-next e =
    subst (λ (n : ℕ). EntriesFrom n next) (let q : 8192 * suc k + 32 * b ≡ 8192 * k + 32 * b + 8192 = omega arith in q)
    (row-leaves (suc k) b hb (omega (arith, padded-next.size)) (λ j q. sym (get_or-take 32 next j 0 q) ∙ ap (λ (l : List ℕ). get_or l j 0) (e ∙ ap (λ (l : List ℕ). remainder divisor l (0 ∷ [])) whole ∙ leaves-more k b)))
  where
    whole : take 32 here ≡ leaves k b
    whole =
        ext_get_or 0 (take 32 here) (leaves k b) (register-length padded ∙ length-divisor ∙ sym (length-leaves k b))
        (λ j q. at j (omega (arith, q, register-length padded, length-divisor)))
      where
        at : (j : ℕ) → j < 32 → get_or (take 32 here) j 0 ≡ get_or (leaves k b) j 0
        at j q = get_or-take 32 here j 0 q ∙ row.byte j q ∙ entry_at k b j hb q
