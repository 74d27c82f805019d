-- The division is linear in the register and the message, and so is the parity. Assumes nothing.
use mathlib.Core.Path.{◌≡◌, refl, sym, ap, ap₂, ◌∙◌}
use mathlib.Core.List.{List, [], ◌∷◌, ◌++◌}
use Prim.Native.Nat.{ℕ, zero, suc}
use native.Mathlib.Nat.{suc_inj}
use native.Mathlib.Numerals.{add-one}
use native.Mathlib.Omega.{arith}
use lib.ListN.{length, drop}
use Rattle.laws.specs.Combined.{combined}
use Rattle.laws.specs.Tabulate.{tabulate}
use Rattle.laws.proofs.Tabulate.{length-tabulate}
use Rattle.galois.specs.Field.{sum}
use Rattle.galois.proofs.Sum.{sum-zero, zero-sum, sum_self, sum-swap}
use Rattle.galois.proofs.Product.{sum-product}
use Rattle.column.specs.Column.{sums, scaled, generator, pushed, remainder, parity}
use Rattle.column.proofs.Sums.{sums-combined, length-snoc, length-scaled}
use Rattle.column.proofs.Value.{zero_column, zeros-append}
use Rattle.column.proofs.Generator.{coefficients-length}
use Rattle.column.proofs.Division.{length-pushed}

sums-swap : (a b c d : List ℕ) → sums (sums a b) (sums c d) ≡ sums (sums a c) (sums b d)
unfolding sums
sums-swap [] b c d = refl
sums-swap (x ∷ a) [] [] d = refl
sums-swap (x ∷ a) [] (z ∷ c) d = refl
sums-swap (x ∷ a) (y ∷ b) [] d = refl
sums-swap (x ∷ a) (y ∷ b) (z ∷ c) [] = refl
sums-swap (x ∷ a) (y ∷ b) (z ∷ c) (w ∷ d) = ap₂ ◌∷◌ (sum-swap x y z w) (sums-swap a b c d)

sums-snoc : (a b : List ℕ) → length a ≡ length b → sums (a ++ 0 ∷ []) (b ++ 0 ∷ []) ≡ sums a b ++ 0 ∷ []
unfolding sums
sums-snoc [] [] e = ap (λ (u : ℕ). u ∷ []) (sum_self 0)
sums-snoc [] (y ∷ b) e = absurd (omega arith)
sums-snoc (x ∷ a) [] e = absurd (omega arith)
sums-snoc (x ∷ a) (y ∷ b) e = ap (λ (l : List ℕ). sum x y ∷ l) (sums-snoc a b (suc_inj e))

scaled-sum : (a b : ℕ) (g : List ℕ) → scaled (sum a b) g ≡ sums (scaled a g) (scaled b g)
unfolding sums scaled
scaled-sum a b [] = refl
scaled-sum a b (c ∷ g) = ap₂ ◌∷◌ (sum-product c a b) (scaled-sum a b g)

pushed-sums : (g r s : List ℕ) (d e : ℕ) → length r ≡ length s → pushed g (sums r s) (sum d e) ≡ sums (pushed g r d) (pushed g s e)
unfolding pushed sums
pushed-sums g [] [] d e h = refl
pushed-sums g [] (y ∷ s) d e h = absurd (omega arith)
pushed-sums g (x ∷ r) [] d e h = absurd (omega arith)
pushed-sums g (x ∷ r) (y ∷ s) d e h =
    ap₂ sums (sym (sums-snoc r s (suc_inj h))) (ap (λ (u : ℕ). scaled u g) (sum-swap d e x y) ∙ scaled-sum (sum d x) (sum e y) g)
    ∙ sums-swap (r ++ 0 ∷ []) (s ++ 0 ∷ []) (scaled (sum d x) g) (scaled (sum e y) g)

-- what two messages of one length leave, together
remainder-sums : (g r s ms ns : List ℕ) → length r ≡ length g → length s ≡ length g → length ms ≡ length ns
    → remainder g (sums r s) (sums ms ns) ≡ sums (remainder g r ms) (remainder g s ns)
unfolding remainder sums
remainder-sums g r s [] [] hr hs e = refl
remainder-sums g r s [] (n ∷ ns) hr hs e = absurd (omega arith)
remainder-sums g r s (m ∷ ms) [] hr hs e = absurd (omega arith)
remainder-sums g r s (m ∷ ms) (n ∷ ns) hr hs e =
    ap (λ (l : List ℕ). remainder g l (sums ms ns)) (pushed-sums g r s m n (hr ∙ sym hs))
    ∙ remainder-sums g (pushed g r m) (pushed g s n) ms ns (length-pushed g r m hr) (length-pushed g s n hs) (suc_inj e)

pub zeros-snoc : (n : ℕ) → zero_column n ++ 0 ∷ [] ≡ zero_column (suc n)
unfolding tabulate
zeros-snoc n = zeros-append n 1 ∙ ap zero_column (add-one n)

pub sums_none : (l : List ℕ) → sums l (tabulate (length l) (λ _. 0)) ≡ l
unfolding tabulate sums
sums_none [] = refl
sums_none (x ∷ l) = ap₂ ◌∷◌ (sum-zero x) (sums_none l)

pub zeros-sums : (n : ℕ) (l : List ℕ) → length l ≡ n → sums (tabulate n (λ _. 0)) l ≡ l
unfolding tabulate sums
zeros-sums zero [] e = refl
zeros-sums zero (x ∷ l) e = absurd (omega arith)
zeros-sums (suc n) [] e = absurd (omega arith)
zeros-sums (suc n) (x ∷ l) e = ap₂ ◌∷◌ (zero-sum x) (zeros-sums n l (suc_inj e))

pushed-zeros : (g : List ℕ) (f : ℕ) → pushed g (tabulate (length g) (λ _. 0)) f ≡ scaled f g
unfolding pushed tabulate scaled
pushed-zeros [] f = refl
pushed-zeros (c ∷ g) f =
    ap₂ sums (zeros-snoc (length g)) (ap (λ (u : ℕ). scaled u (c ∷ g)) (sum-zero f))
    ∙ zeros-sums (suc (length g)) (scaled f (c ∷ g)) (length-scaled f (c ∷ g))

-- what byte b leaves in the register when k zeros follow it
unfoldable pub left : List ℕ → ℕ → ℕ → List ℕ
left g k b = remainder g (tabulate (length g) (λ _. 0)) (b ∷ tabulate k (λ _. 0))

-- the first byte of the message: what it leaves, with the first of the register, is added to what the others leave
pub first-in : (g cs ms : List ℕ) (c m : ℕ) → length (c ∷ cs) ≡ length g
    → remainder g (c ∷ cs) (m ∷ ms) ≡ sums (remainder g (cs ++ 0 ∷ []) ms) (left g (length ms) (sum m c))
unfolding remainder pushed left
first-in g cs ms c m e =
    ap (remainder g (sums (cs ++ 0 ∷ []) (scaled (sum m c) g))) (sym (sums_none ms))
    ∙ remainder-sums g (cs ++ 0 ∷ []) (scaled (sum m c) g) ms (tabulate (length ms) (λ _. 0)) (length-snoc cs ∙ e) (length-scaled (sum m c) g)
    (sym (length-tabulate (length ms) (λ _. 0)))
    ∙ ap (λ (l : List ℕ). sums (remainder g (cs ++ 0 ∷ []) ms) (remainder g l (tabulate (length ms) (λ _. 0)))) (sym (pushed-zeros g (sum m c)))

-- ---- the parity of combined messages

-- the register starts with r zeros
pub zeros-length : (r : ℕ) → length {A = ℕ} (tabulate r (λ _. 0)) ≡ length (drop 1 (generator r))
zeros-length r = length-tabulate r (λ _. 0) ∙ sym (coefficients-length r)

pub parity-combined : (r : ℕ) (a b : List ℕ) → length a ≡ length b → parity r (combined a b) ≡ combined (parity r a) (parity r b)
unfolding parity
parity-combined r a b same =
    ap₂ (remainder g) (sym (zeros-sums r zeros (length-tabulate r (λ _. 0)))) (sym (sums-combined a b))
    ∙ remainder-sums g zeros zeros a b (zeros-length r) (zeros-length r) same
    ∙ sums-combined (remainder g zeros a) (remainder g zeros b)
  where
    g : List ℕ
    g = drop 1 (generator r)

    zeros : List ℕ
    zeros = tabulate r (λ _. 0)
