-- A column is a multiple of the generator exactly where it has the generator's roots: the value of a product is the product of the values, and
-- the division finds the quotient. Assumes nothing.
use mathlib.Core.Path.{◌≡◌, refl, sym, ap, ap₂, subst, ◌∙◌}
use mathlib.Core.Bool.{true}
use mathlib.Core.List.{List, [], ◌∷◌, ◌++◌, append_assoc, append-nil}
use mathlib.Core.Logic.{◌↔◌}
use Prim.Native.Nat.{ℕ, suc, ◌+◌, ◌-◌, ◌<◌, ◌≤◌}
use native.Mathlib.Nat.{suc_inj}
use native.Mathlib.Omega.{arith}
use lib.ListN.{length, get_or, drop, take, length-append}
use Rattle.laws.specs.Bytes.{Bytes}
use Rattle.laws.specs.Tabulate.{tabulate}
use Rattle.laws.proofs.Bytes.{bytes-none, bytes-cons, bytes_take}
use Rattle.laws.proofs.Tabulate.{length-tabulate}
use Rattle.galois.specs.Field.{α, sum, product, power}
use Rattle.galois.proofs.Sum.{sum-assoc, sum_comm, sum-zero, zero-sum, sum_self, sum-byte, sum-cancel}
use Rattle.galois.proofs.Product.{product-byte, product-comm, product-assoc, sum-product, product-zero, zero-product, one_product, product-one}
use Rattle.column.specs.Column.{value_from, value, Roots, has_roots, sums, scaled, times_root, generator, multiplied, MultipleOf, ParityExactly, pushed, remainder, parity}
use Rattle.column.proofs.Sums.{length-snoc, length-sums, length-scaled}
use Rattle.column.proofs.Value.{zero_column, zeros-bytes, zeros-append, value-append, value-cons, value-sums, value-scaled, value_out, value-moved, value-zeros}
use Rattle.column.proofs.Generator.{generator-roots, generator-first, generator-bytes}
use Rattle.column.proofs.Division.{length-pushed, bytes-pushed}
use Rattle.column.proofs.Roots.{has-roots}
use Rattle.column.proofs.Linear.{sums_none, zeros-sums, zeros-length}
use Rattle.column.proofs.Parity.{parity-length, parity-only, roots-parity, test-parity, test-column}

-- ---- the product: its length, its value

length_moved : (a c : ℕ) (q g : List ℕ) → length (scaled a (c ∷ g) ++ zero_column (length q)) ≡ suc (length q + length g)
length_moved a c q g =
    let times : length (scaled a (c ∷ g)) ≡ suc (length g) = length-scaled a (c ∷ g) in
    let behind : length (zero_column (length q)) ≡ length q = length-tabulate (length q) (λ _. 0) in
    let both = length-append (scaled a (c ∷ g)) (zero_column (length q)) in
    omega arith

multiplied-none : (c : ℕ) (g : List ℕ) → multiplied [] (c ∷ g) ≡ zero_column (length g)
unfolding multiplied
multiplied-none c g = ap zero_column (less (length g))
  where
    less : (n : ℕ) → suc n - 1 ≡ n
    less n = omega arith

pub length-multiplied : (q : List ℕ) (c : ℕ) (g : List ℕ) → length (multiplied q (c ∷ g)) ≡ length q + length g
unfolding multiplied
length-multiplied [] c g = ap length (multiplied-none c g) ∙ length-tabulate (length g) (λ _. 0) ∙ omega arith
length-multiplied (a ∷ q) c g =
    length-sums (scaled a (c ∷ g) ++ zero_column (length q)) (0 ∷ multiplied q (c ∷ g)) (length_moved a c q g ∙ sym (ap suc (length-multiplied q c g)))
    ∙ length_moved a c q g
    ∙ omega arith

value-times : (a : ℕ) (cs : List ℕ) (x : ℕ) → value (scaled a cs) x ≡ product a (value cs x)
unfolding value
value-times a cs x = ap (λ (u : ℕ). value_from u (scaled a cs) x) (sym (product-zero a)) ∙ value-scaled a 0 cs x

pub value-multiplied : (q : List ℕ) (c : ℕ) (g : List ℕ) (x : ℕ) → Bytes q → value (multiplied q (c ∷ g)) x ≡ product (value q x) (value (c ∷ g) x)
unfolding value value_from multiplied
value-multiplied [] c g x b = ap (λ (l : List ℕ). value l x) (multiplied-none c g) ∙ value-zeros (length g) x ∙ sym (zero-product (value (c ∷ g) x))
value-multiplied (a ∷ q) c g x b =
    ap (λ (u : ℕ). value_from u (sums top (0 ∷ multiplied q (c ∷ g))) x) (sym (sum_self 0))
    ∙ value-sums 0 0 top (0 ∷ multiplied q (c ∷ g)) x (length_moved a c q g ∙ sym (ap suc (length-multiplied q c g)))
    ∙ ap₂ sum first (value-cons 0 (multiplied q (c ∷ g)) x ∙ value-multiplied q c g x (λ j. b (suc j)))
    ∙ sym (ap (λ (u : ℕ). product u v) split ∙ sum-product v (product a (power x (length q))) (value q x))
  where
    top : List ℕ
    top = scaled a (c ∷ g) ++ zero_column (length q)

    v : ℕ
    v = value (c ∷ g) x

    split : value (a ∷ q) x ≡ sum (product a (power x (length q))) (value q x)
    split = value-cons a q x ∙ value_out a q x (b 0) (λ j. b (suc j))

    first : value_from 0 top x ≡ product (product a (power x (length q))) v
    first =
        value-append 0 (scaled a (c ∷ g)) (zero_column (length q)) x
        ∙ ap (λ (u : ℕ). value_from u (zero_column (length q)) x) (value-times a (c ∷ g) x)
        ∙ value-moved (product a v) (length q) x (product-byte a v)
        ∙ product-assoc a v (power x (length q))
        ∙ ap (product a) (product-comm v (power x (length q)))
        ∙ sym (product-assoc a (power x (length q)) v)

-- ---- the generator as a product, and what a multiple of it has

scaled-one : (cs : List ℕ) → Bytes cs → scaled 1 cs ≡ cs
unfolding scaled
scaled-one [] b = refl
scaled-one (c ∷ cs) b = ap₂ ◌∷◌ (one_product c (b 0)) (scaled-one cs (λ j. b (suc j)))

-- x - a is 1 ∷ a
root-product : (a c : ℕ) (cs : List ℕ) → Bytes (c ∷ cs) → times_root a (c ∷ cs) ≡ multiplied (1 ∷ a ∷ []) (c ∷ cs)
unfolding times_root multiplied tabulate
root-product a c cs b =
    ap₂ (λ (k l : List ℕ). sums (k ++ 0 ∷ []) (0 ∷ l)) (sym (scaled-one (c ∷ cs) b))
    (sym
    (ap₂ sums (append-nil (scaled a (c ∷ cs))) (ap (λ (l : List ℕ). 0 ∷ l) (multiplied-none c cs) ∙ ap zero_column (sym (length-scaled a (c ∷ cs))))
    ∙ sums_none (scaled a (c ∷ cs))))

-- formulas 30, 33, 37: one factor more
pub generator-next : (r : ℕ) → generator (suc r) ≡ multiplied (1 ∷ power α r ∷ []) (generator r)
unfolding generator
generator-next r =
    ap (times_root (power α r)) (generator-first r)
    ∙ root-product (power α r) 1 (drop 1 (generator r)) (subst Bytes (generator-first r) (generator-bytes r))
    ∙ ap (multiplied (1 ∷ power α r ∷ [])) (sym (generator-first r))

-- a multiple has the roots
pub multiple-roots : (r : ℕ) (column : List ℕ) → MultipleOf (generator r) column → Roots r column
multiple-roots r column m i h =
    ap (λ (l : List ℕ). value l (power α i)) (m.product ∙ ap (multiplied m.quotient) (generator-first r))
    ∙ value-multiplied m.quotient 1 (drop 1 (generator r)) (power α i) m.bytes
    ∙ ap (product (value m.quotient (power α i))) (ap (λ (l : List ℕ). value l (power α i)) (sym (generator-first r)) ∙ generator-roots r i h)
    ∙ product-zero (value m.quotient (power α i))

-- ---- the quotient: the multiples of 1 ∷ g that the division takes off

unfoldable quotient_of : List ℕ → List ℕ → List ℕ → List ℕ
quotient_of g register [] = []
quotient_of g register (d ∷ ds) = sum d (get_or register 0 0) ∷ quotient_of g (pushed g register d) ds

length-quotient : (g register ds : List ℕ) → length (quotient_of g register ds) ≡ length ds
unfolding quotient_of
length-quotient g register [] = refl
length-quotient g register (d ∷ ds) = ap suc (length-quotient g (pushed g register d) ds)

bytes-quotient : (g register ds : List ℕ) → Bytes register → Bytes ds → Bytes (quotient_of g register ds)
unfolding quotient_of
bytes-quotient g register [] hr hd = bytes-none
bytes-quotient g register (d ∷ ds) hr hd =
    bytes-cons (sum d (get_or register 0 0)) (quotient_of g (pushed g register d) ds) (sum-byte (hd 0) (hr 0))
    (bytes-quotient g (pushed g register d) ds (bytes-pushed g register d hr) (λ j. hd (suc j)))

sums-self : (l : List ℕ) → sums l l ≡ zero_column (length l)
unfolding sums tabulate
sums-self [] = refl
sums-self (x ∷ l) = ap₂ ◌∷◌ (sum_self x) (sums-self l)

-- zeros behind both
sums-behind : (a b : List ℕ) (n : ℕ) → length a ≡ length b → sums a b ++ zero_column n ≡ sums (a ++ zero_column n) (b ++ zero_column n)
unfolding sums
sums-behind [] [] n e = sym (zeros-sums n (zero_column n) (length-tabulate n (λ _. 0)))
sums-behind [] (y ∷ b) n e = absurd (omega arith)
sums-behind (x ∷ a) [] n e = absurd (omega arith)
sums-behind (x ∷ a) (y ∷ b) n e = ap (λ (l : List ℕ). sum x y ∷ l) (sums-behind a b n (suc_inj e))

-- what is added twice goes
sums-twice : (a b x : List ℕ) → length a ≡ length b → sums a (sums (sums b a) x) ≡ sums b x
unfolding sums
sums-twice [] [] x e = refl
sums-twice [] (v ∷ b) x e = absurd (omega arith)
sums-twice (u ∷ a) [] x e = absurd (omega arith)
sums-twice (u ∷ a) (v ∷ b) [] e = refl
sums-twice (u ∷ a) (v ∷ b) (w ∷ x) e = ap₂ ◌∷◌ twice (sums-twice a b x (suc_inj e))
  where
    twice : sum u (sum (sum v u) w) ≡ sum v w
    twice = ap (sum u) (ap (λ (k : ℕ). sum k w) (sum_comm v u) ∙ sum-assoc u v w) ∙ sum-cancel u (sum v w)

-- zeros in front of zeros
front-zeros : (r n : ℕ) (l : List ℕ) → length l ≡ r + n → sums (zero_column r ++ zero_column n) l ≡ l
front-zeros r n l e = ap (λ (k : List ℕ). sums k l) (zeros-append r n) ∙ zeros-sums (r + n) l e

-- the first coefficient of f (1 ∷ g), with f = d + c
first_of : (d c : ℕ) → d < 256 → c < 256 → sum (product (sum d c) 1) 0 ≡ sum d c
first_of d c hd hc = sum-zero (product (sum d c) 1) ∙ product-one (sum d c) (sum-byte hd hc)

-- f g, which a byte has taken off the register, added again
taken-off : (f : ℕ) (g cs : List ℕ) (n : ℕ) (l : List ℕ) → suc (length cs) ≡ length g
    → sums (scaled f g ++ zero_column n) (sums (sums (cs ++ 0 ∷ []) (scaled f g) ++ zero_column n) l) ≡ sums (cs ++ 0 ∷ zero_column n) l
taken-off f g cs n l e =
    ap (λ (k : List ℕ). sums multiple (sums k l)) (sums-behind (cs ++ 0 ∷ []) (scaled f g) n same)
    ∙ sums-twice multiple ((cs ++ 0 ∷ []) ++ zero_column n) l lengths
    ∙ ap (λ (k : List ℕ). sums k l) (append_assoc cs (0 ∷ []) (zero_column n))
  where
    multiple : List ℕ
    multiple = scaled f g ++ zero_column n

    same : length (cs ++ 0 ∷ []) ≡ length (scaled f g)
    same = length-snoc cs ∙ e ∙ sym (length-scaled f g)

    lengths : length (scaled f g ++ zero_column n) ≡ length ((cs ++ 0 ∷ []) ++ zero_column n)
    lengths =
        length-append (scaled f g) (zero_column n) ∙ ap (λ (k : ℕ). k + length (zero_column n)) (sym same) ∙ sym (length-append (cs ++ 0 ∷ []) (zero_column n))

-- the register, at the front, with the message and its remainder, is the quotient times 1 ∷ g
divided-product : (g register ds : List ℕ) → length register ≡ length g → Bytes register → Bytes ds
    → sums (register ++ zero_column (length ds)) (ds ++ remainder g register ds) ≡ multiplied (quotient_of g register ds) (1 ∷ g)
unfolding remainder multiplied quotient_of pushed sums scaled tabulate
divided-product g register [] e hr hd =
    ap (λ (l : List ℕ). sums l register) (append-nil register) ∙ sums-self register ∙ ap zero_column e ∙ sym (multiplied-none 1 g)
divided-product [] [] (d ∷ ds) e hr hd =
    ap₂ ◌∷◌ (zero-sum d ∙ sym (first_of d 0 (hd 0) (omega arith) ∙ sum-zero d))
    (divided-product [] [] ds refl hr (λ j. hd (suc j)) ∙ sym (zeros-sums (length q) (multiplied q (1 ∷ [])) (length-multiplied q 1 [] ∙ omega arith)))
  where
    q : List ℕ
    q = quotient_of [] [] ds
divided-product (c ∷ g) [] (d ∷ ds) e hr hd = absurd (omega arith)
divided-product g (c ∷ cs) (d ∷ ds) e hr hd =
    ap₂ ◌∷◌ (sum_comm c d ∙ sym (first_of d c (hd 0) (hr 0)))
    (sym
    (ap₂ sums (ap (λ (k : ℕ). scaled f g ++ zero_column k) (length-quotient g next ds)) (sym (divided-product g next ds size bytes (λ j. hd (suc j))))
    ∙ taken-off f g cs (length ds) (ds ++ remainder g next ds) e))
  where
    f : ℕ
    f = sum d c

    next : List ℕ
    next = pushed g (c ∷ cs) d

    size : length next ≡ length g
    size = length-pushed g (c ∷ cs) d e

    bytes : Bytes next
    bytes = bytes-pushed g (c ∷ cs) d hr

-- ---- exactly the columns with the roots are multiples

-- a message and its parity are one
pub parity-multiple : (r : ℕ) (message : List ℕ) → Bytes message → MultipleOf (generator r) (message ++ parity r message)
unfolding parity
parity-multiple r message bytes =
    record {
      quotient = quotient_of g (zero_column r) message;
      bytes = bytes-quotient g (zero_column r) message (zeros-bytes r) bytes;
      product =
          sym (front-zeros r (length message) (message ++ parity r message) size)
          ∙ divided-product g (zero_column r) message (zeros-length r) (zeros-bytes r) bytes
          ∙ ap (multiplied (quotient_of g (zero_column r) message)) (sym (generator-first r));
    }
  where
    g : List ℕ
    g = drop 1 (generator r)

    size : length (message ++ parity r message) ≡ r + length message
    size = omega (arith, length-append message (parity r message), parity-length r message)

-- a multiple passes the test of the roots
pub multiple-right : (r : ℕ) (column : List ℕ) → MultipleOf (generator r) column → has_roots r column ≡ true
multiple-right r column m = (has-roots r column).1 (multiple-roots r column m)

module _ (r : ℕ) (few : r ≤ 255) where
  -- only the parity, behind a message, makes a multiple
  pub multiple-parity : (message p : List ℕ) → Bytes message → Bytes p → length p ≡ r → MultipleOf (generator r) (message ++ p) → p ≡ parity r message
  multiple-parity message p bm bp size m = roots-parity r few message p bm bp size (multiple-roots r (message ++ p) m)

  -- THE PARITY OF A MESSAGE OF ANY LENGTH (13.7, 13.12; document 02, W-207)
  pub parity-exactly : (message : List ℕ) → Bytes message → ParityExactly r message (parity r message)
  parity-exactly message bytes =
      record {
        is-parity = parity-only r few message bytes;
        multiples = λ q size bq. (
          multiple-parity message q bytes bq size,
          λ e. subst (λ (p : List ℕ). MultipleOf (generator r) (message ++ p)) (sym e) (parity-multiple r message bytes),
        );
      }

  -- a column of n bytes and r more that passes ends in the parity of those before
  pub column-exactly : (n : ℕ) (column : List ℕ) → Bytes column → length column ≡ n + r → has_roots r column ≡ true
      → ParityExactly r (take n column) (drop n column)
  column-exactly n column bytes size test =
      subst (ParityExactly r (take n column)) (sym (test-parity r few n column bytes size test)) (parity-exactly (take n column) (bytes_take n column bytes))

  -- and is a multiple
  pub right-multiple : (n : ℕ) (column : List ℕ) → Bytes column → length column ≡ n + r → has_roots r column ≡ true → MultipleOf (generator r) column
  right-multiple n column bytes size test =
      subst (MultipleOf (generator r)) (sym (test-column r few n column bytes size test)) (parity-multiple r (take n column) (bytes_take n column bytes))

  pub multiple-iff : (n : ℕ) (column : List ℕ) → Bytes column → length column ≡ n + r → MultipleOf (generator r) column ↔ Roots r column
  multiple-iff n column bytes size = (multiple-roots r column, λ roots. right-multiple n column bytes size ((has-roots r column).1 roots))
