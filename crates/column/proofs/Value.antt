-- The value of a column: it is linear, 0 for zeros, and a loop finds it byte by byte. Assumes nothing.
use mathlib.Core.Path.{◌≡◌, refl, sym, ap, ap₂, ◌∙◌}
use mathlib.Core.List.{List, [], ◌∷◌, ◌++◌}
use Prim.Native.Nat.{ℕ, zero, suc, ◌+◌, ◌<◌, ◌≤◌}
use native.Mathlib.Nat.{suc_inj, zero-add, suc-add}
use native.Mathlib.Numerals.{add-one}
use native.Mathlib.Omega.{arith}
use lib.ListN.{length, get_or, take}
use lib.Seq.{take-suc, take_all}
use Rattle.laws.specs.Bytes.{Bytes}
use Rattle.laws.specs.Tabulate.{tabulate}
use Rattle.laws.proofs.Bytes.{bytes-tabulate}
use Rattle.galois.specs.Field.{sum, product, power}
use Rattle.galois.specs.Tables.{AreTables, product_by}
use Rattle.galois.proofs.Lookup.{product-table}
use Rattle.galois.proofs.Sum.{sum-assoc, sum-zero, zero-sum, sum_self, sum-byte, sum-swap}
use Rattle.galois.proofs.Product.{product-byte, product-assoc, product-sum, sum-product, zero-product, product-one}
use Rattle.column.specs.Column.{value_from, value, sums, scaled}

pub value-append : (v : ℕ) (xs ys : List ℕ) (x : ℕ) → value_from v (xs ++ ys) x ≡ value_from (value_from v xs x) ys x
unfolding value_from
value-append v [] ys x = refl
value-append v (c ∷ cs) ys x = value-append (sum (product v x) c) cs ys x

-- the first byte is what stands before the others
pub value-cons : (c : ℕ) (cs : List ℕ) (x : ℕ) → value (c ∷ cs) x ≡ value_from c cs x
unfolding value value_from
value-cons c cs x = ap (λ (u : ℕ). value_from u cs x) (ap (λ (u : ℕ). sum u c) (zero-product x) ∙ zero-sum c)

pub value-sums : (v w : ℕ) (xs ys : List ℕ) (x : ℕ) → length xs ≡ length ys
    → value_from (sum v w) (sums xs ys) x ≡ sum (value_from v xs x) (value_from w ys x)
unfolding value_from sums
value-sums v w [] [] x e = refl
value-sums v w [] (y ∷ ys) x e = absurd (omega arith)
value-sums v w (a ∷ xs) [] x e = absurd (omega arith)
value-sums v w (a ∷ xs) (b ∷ ys) x e =
    ap (λ (u : ℕ). value_from u (sums xs ys) x) (ap (λ (u : ℕ). sum u (sum a b)) (sum-product x v w) ∙ sum-swap (product v x) (product w x) a b)
    ∙ value-sums (sum (product v x) a) (sum (product w x) b) xs ys x (suc_inj e)

pub value-scaled : (f v : ℕ) (cs : List ℕ) (x : ℕ) → value_from (product f v) (scaled f cs) x ≡ product f (value_from v cs x)
unfolding value_from scaled
value-scaled f v [] x = refl
value-scaled f v (c ∷ cs) x =
    ap (λ (u : ℕ). value_from u (scaled f cs) x) (ap (λ (u : ℕ). sum u (product f c)) (product-assoc f v x) ∙ sym (product-sum f (product v x) c))
    ∙ value-scaled f (sum (product v x) c) cs x

-- the bytes before count with their power
pub value_out : (v : ℕ) (cs : List ℕ) (x : ℕ) → v < 256 → Bytes cs → value_from v cs x ≡ sum (product v (power x (length cs))) (value cs x)
unfolding value value_from power
value_out v [] x h b = sym (sum-zero (product v 1) ∙ product-one v h)
value_out v (c ∷ cs) x h b =
    value_out (sum (product v x) c) cs x (sum-byte (product-byte v x) (b 0)) (λ j. b (suc j))
    ∙ ap (λ (u : ℕ). sum u (value cs x))
    (sum-product (power x (length cs)) (product v x) c
    ∙ ap (λ (u : ℕ). sum u (product c (power x (length cs)))) (product-assoc v x (power x (length cs))))
    ∙ sum-assoc (product v (product x (power x (length cs)))) (product c (power x (length cs))) (value cs x)
    ∙ ap (sum (product v (product x (power x (length cs))))) (sym (value-cons c cs x ∙ value_out c cs x (b 0) (λ j. b (suc j))))

-- a root of two columns, behind the same bytes, is a root of their sum
pub sum-root : (v : ℕ) (xs ys : List ℕ) (x : ℕ) → length xs ≡ length ys → value_from v xs x ≡ 0 → value_from v ys x ≡ 0 → value (sums xs ys) x ≡ 0
unfolding value
sum-root v xs ys x e root root' =
    ap (λ (u : ℕ). value_from u (sums xs ys) x) (sym (sum_self v)) ∙ value-sums v v xs ys x e ∙ ap₂ sum root root' ∙ sum_self 0

-- ---- zeros

abbrev pub zero_column : ℕ → List ℕ
zero_column n = tabulate n (λ _. 0)

pub zeros-bytes : (n : ℕ) → Bytes (zero_column n)
zeros-bytes n = bytes-tabulate n (λ _. 0) (λ k h. omega arith)

pub zeros-append : (k m : ℕ) → zero_column k ++ zero_column m ≡ zero_column (k + m)
unfolding tabulate
zeros-append zero m = ap zero_column (sym (zero-add m))
zeros-append (suc k) m = ap (λ (l : List ℕ). 0 ∷ l) (zeros-append k m) ∙ ap zero_column (sym (suc-add k m))

pub value-zeros : (n x : ℕ) → value_from 0 (zero_column n) x ≡ 0
unfolding value_from tabulate
value-zeros zero x = refl
value-zeros (suc n) x = ap (λ (u : ℕ). value_from u (zero_column n) x) (sum-zero (product 0 x) ∙ zero-product x) ∙ value-zeros n x

-- behind a byte they count as a power of x
pub value-moved : (v n x : ℕ) → v < 256 → value_from v (zero_column n) x ≡ product v (power x n)
unfolding value_from tabulate power
value-moved v zero x h = sym (product-one v h)
value-moved v (suc n) x h =
    ap (λ (u : ℕ). value_from u (zero_column n) x) (sum-zero (product v x)) ∙ value-moved (product v x) n x (product-byte v x) ∙ product-assoc v x (power x n)

-- ---- byte by byte

-- p and l are the field's tables; v is the value of the first i bytes
pub record Valued (p l column : List ℕ) (x i v : ℕ) : Type 0 where
  pub tables : AreTables p l
  pub point : x < 256
  pub within : i ≤ length column
  pub small : v < 256
  pub right : v ≡ value (take i column) x

pub valued-none : {p l : List ℕ} {x : ℕ} (column : List ℕ) → AreTables p l → x < 256 → Valued p l column x 0 0
unfolding value value_from
valued-none column tables point =
    record { tables = tables; point = point; within = omega arith; small = omega arith; right = refl }

-- m is the product with x, w its sum with the next byte
pub valued-next : {p l column : List ℕ} {x i v m w : ℕ} → i < length column → m ≡ product_by p l v x → w < 256 → w ≡ sum m (get_or column i 0)
    → Valued p l column x i v → Valued p l column x (i + 1) w
unfolding value value_from
valued-next {p} {l} {column} {x} {i} {v} {m} {w} h times small plus valued =
    record {
      tables = valued.tables;
      point = valued.point;
      within = omega arith;
      small = small;
      right =
          plus
          ∙ ap (λ (u : ℕ). sum u (get_or column i 0))
          (product-table valued.tables valued.small valued.point times ∙ ap (λ (u : ℕ). product u x) valued.right)
          ∙ sym (value-append 0 (take i column) (get_or column i 0 ∷ []) x)
          ∙ ap (λ (k : List ℕ). value_from 0 k x) (sym (ap (λ (k : ℕ). take k column) (add-one i) ∙ take-suc column i 0 h));
    }

pub valued-all : {p l column : List ℕ} {x i v : ℕ} → length column ≤ i → Valued p l column x i v → v ≡ value column x
valued-all {p} {l} {column} {x} {i} {v} h valued = valued.right ∙ ap (λ (k : List ℕ). value k x) (take_all i column h)
