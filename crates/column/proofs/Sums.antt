-- Sums and multiples of columns: their lengths, their bytes, their elements. Assumes nothing.
use mathlib.Core.Path.{◌≡◌, refl, sym, ap, ◌∙◌, subst⁻¹}
use mathlib.Core.List.{List, [], ◌∷◌, ◌++◌}
use Prim.Native.Nat.{ℕ, zero, suc}
use native.Mathlib.Omega.{arith}
use lib.ListN.{length, get_or}
use Rattle.laws.specs.Bytes.{Bytes}
use Rattle.laws.specs.Combined.{combined}
use Rattle.laws.proofs.Bytes.{bytes-none, bytes-cons, bytes-append}
use Rattle.laws.proofs.Combined.{length-combined, get_d-combined, bytes-combined}
use Rattle.galois.specs.Field.{sum, product}
use Rattle.galois.proofs.Product.{product-byte, product-zero}
use Rattle.column.specs.Column.{sums, scaled}

-- the field's sum is bit by bit, so the sum of two columns is their combination by exclusive or
pub sums-combined : (a b : List ℕ) → sums a b ≡ combined a b
unfolding sums combined sum
sums-combined [] b = refl
sums-combined (x ∷ a) [] = refl
sums-combined (x ∷ a) (y ∷ b) = ap (λ (l : List ℕ). sum x y ∷ l) (sums-combined a b)

pub length-snoc : (cs : List ℕ) → length (cs ++ 0 ∷ []) ≡ suc (length cs)
length-snoc [] = refl
length-snoc (c ∷ cs) = ap suc (length-snoc cs)

pub length-sums : (xs ys : List ℕ) → length xs ≡ length ys → length (sums xs ys) ≡ length xs
length-sums xs ys e = ap length (sums-combined xs ys) ∙ length-combined xs ys e

pub length-scaled : (a : ℕ) (cs : List ℕ) → length (scaled a cs) ≡ length cs
unfolding scaled
length-scaled a [] = refl
length-scaled a (c ∷ cs) = ap suc (length-scaled a cs)

pub bytes-snoc : (cs : List ℕ) → Bytes cs → Bytes (cs ++ 0 ∷ [])
bytes-snoc cs h = bytes-append cs (0 ∷ []) h (bytes-cons 0 [] (omega arith) bytes-none)

pub bytes-sums : (xs ys : List ℕ) → Bytes xs → Bytes ys → Bytes (sums xs ys)
bytes-sums xs ys hx hy = subst⁻¹ Bytes (sums-combined xs ys) (bytes-combined xs ys hx hy)

pub bytes-scaled : (a : ℕ) (cs : List ℕ) → Bytes (scaled a cs)
unfolding scaled
bytes-scaled a [] = bytes-none
bytes-scaled a (c ∷ cs) = bytes-cons (product a c) (scaled a cs) (product-byte a c) (bytes-scaled a cs)

pub snoc-at : (cs : List ℕ) (i : ℕ) → get_or (cs ++ 0 ∷ []) i 0 ≡ get_or cs i 0
snoc-at [] zero = refl
snoc-at [] (suc i) = refl
snoc-at (c ∷ cs) zero = refl
snoc-at (c ∷ cs) (suc i) = snoc-at cs i

pub sums_at : (xs ys : List ℕ) (i : ℕ) → length xs ≡ length ys → get_or (sums xs ys) i 0 ≡ sum (get_or xs i 0) (get_or ys i 0)
unfolding sum
sums_at xs ys i e = ap (λ (l : List ℕ). get_or l i 0) (sums-combined xs ys) ∙ get_d-combined xs ys i e

pub scaled_at : (a : ℕ) (cs : List ℕ) (i : ℕ) → get_or (scaled a cs) i 0 ≡ product a (get_or cs i 0)
unfolding scaled
scaled_at a [] i = sym (product-zero a)
scaled_at a (c ∷ cs) zero = refl
scaled_at a (c ∷ cs) (suc i) = scaled_at a cs i
