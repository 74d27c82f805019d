-- In how many places two lists of one length differ: counted by indexes; that it is a distance, stays when both are combined with one list, and can be
-- divided by a list between them. Assumes nothing.
use mathlib.Core.Path.{◌≡◌, refl, sym, ap, ap₂, ◌∙◌}
use mathlib.Core.Bool.{Bool, true, false, cond, not}
use mathlib.Core.List.{List, [], ◌∷◌, ◌++◌}
use Prim.Native.Nat.{ℕ, zero, suc, ◌+◌, ◌≤◌}
use native.Mathlib.Nat.{suc_inj, le_of_suc-le-suc, add-zero}
use native.Mathlib.Omega.{arith}
use lib.Bits.{bit_xor}
use lib.Dec.{eqb}
use borrow.Author.Tests.{eqb-true, eqb-false, eq-eqb, ne_eqb}
use lib.ListN.{length, get_or}
use Rattle.laws.specs.Bytes.{Bytes}
use Rattle.laws.specs.Combined.{combined}
use Rattle.laws.specs.Differing.{differs_at, differing}
use Rattle.laws.specs.HowMany.{how_many}
use Rattle.laws.proofs.Bytes.{bytes-none, bytes-cons}
use Rattle.laws.proofs.Xor.{xor-twice}

-- ---- one place

pub differs : (a b : List ℕ) (k : ℕ) → (get_or a k 0 ≡ get_or b k 0 → ⊥) → differs_at a b k ≡ true
unfolding differs_at
differs a b k h = rw (ne_eqb (get_or a k 0) (get_or b k 0) h)

pub agrees : (a b : List ℕ) (k : ℕ) → get_or a k 0 ≡ get_or b k 0 → differs_at a b k ≡ false
unfolding differs_at
agrees a b k h = rw (eq-eqb (get_or a k 0) (get_or b k 0) h)

-- ---- the number of indexes below the length at which they differ

pub differing-places : (l m : List ℕ) → length l ≡ length m → differing l m ≡ how_many (length l) (differs_at l m)
unfolding differing how_many differs_at
differing-places [] m e = refl
differing-places (x ∷ l) [] e = absurd (omega arith)
differing-places (x ∷ l) (y ∷ m) e = by (eqb x y) (differing-places l m (suc_inj e))
  where
    by : (t : Bool) {n k : ℕ} → n ≡ k → cond t n (suc n) ≡ cond (not t) (suc k) k
    by true h = h
    by false h = ap suc h

pub differing-most : (l m : List ℕ) → differing l m ≤ length l
unfolding differing
differing-most [] m = omega arith
differing-most (x ∷ l) [] = omega arith
differing-most (x ∷ l) (y ∷ m) = by (eqb x y) (differing-most l m)
  where
    by : (t : Bool) {n k : ℕ} → n ≤ k → cond t n (suc n) ≤ suc k
    by true h = omega arith
    by false h = omega arith

-- ---- a distance

pub differing-self : (l : List ℕ) → differing l l ≡ 0
unfolding differing
differing-self [] = refl
differing-self (x ∷ l) = rw (eq-eqb x x refl) (differing-self l)

pub differing-none : (l m : List ℕ) → length l ≡ length m → differing l m ≡ 0 → l ≡ m
unfolding differing
differing-none [] [] e none = refl
differing-none [] (y ∷ m) e none = absurd (omega arith)
differing-none (x ∷ l) [] e none = absurd (omega arith)
differing-none (x ∷ l) (y ∷ m) e none = by (eqb x y) refl none (λ h. differing-none l m (suc_inj e) h)
  where
    by : (t : Bool) → eqb x y ≡ t → cond t (differing l m) (suc (differing l m)) ≡ 0 → (differing l m ≡ 0 → l ≡ m) → x ∷ l ≡ y ∷ m
    by true t h rest = ap₂ ◌∷◌ (eqb-true x y t) (rest h)
    by false t h rest = absurd (omega arith)

pub differing-comm : (l m : List ℕ) → differing l m ≡ differing m l
unfolding differing
differing-comm [] [] = refl
differing-comm [] (y ∷ m) = refl
differing-comm (x ∷ l) [] = refl
differing-comm (x ∷ l) (y ∷ m) = by (eqb x y) refl (differing-comm l m)
  where
    by : (t : Bool) → eqb x y ≡ t → differing l m ≡ differing m l → cond t (differing l m) (suc (differing l m)) ≡ differing (y ∷ m) (x ∷ l)
    by true t h = rw (eq-eqb y x (sym (eqb-true x y t))) h
    by false t h = rw (ne_eqb y x (λ e. eqb-false x y t (sym e))) (ap suc h)

-- the triangle inequality
pub differing-between : (w l m : List ℕ) → length l ≡ length w → length m ≡ length w → differing l m ≤ differing w l + differing w m
unfolding differing
differing-between [] [] m e f = omega arith
differing-between [] (y ∷ l) m e f = absurd (omega arith)
differing-between (x ∷ w) [] m e f = absurd (omega arith)
differing-between (x ∷ w) (y ∷ l) [] e f = absurd (omega arith)
differing-between (x ∷ w) (y ∷ l) (z ∷ m) e f =
    by (eqb y z) (eqb x y) (eqb x z) refl refl refl (differing l m) (differing w l) (differing w m) (differing-between w l m (suc_inj e) (suc_inj f))
  where
    by : (p q r : Bool) → eqb y z ≡ p → eqb x y ≡ q → eqb x z ≡ r → (n a b : ℕ) → n ≤ a + b → cond p n (suc n) ≤ cond q a (suc a) + cond r b (suc b)
    by true true true yz xy xz n a b h = h
    by true true false yz xy xz n a b h = omega arith
    by true false true yz xy xz n a b h = omega arith
    by true false false yz xy xz n a b h = omega arith
    by false true true yz xy xz n a b h = absurd (eqb-false y z yz (sym (eqb-true x y xy) ∙ eqb-true x z xz))
    by false true false yz xy xz n a b h = omega arith
    by false false true yz xy xz n a b h = omega arith
    by false false false yz xy xz n a b h = omega arith

-- ---- lists put together, and combined with one list

pub differing-append : (a b c d : List ℕ) → length a ≡ length b → differing (a ++ c) (b ++ d) ≡ differing a b + differing c d
unfolding differing
differing-append [] [] c d e = omega arith
differing-append [] (y ∷ b) c d e = absurd (omega arith)
differing-append (x ∷ a) [] c d e = absurd (omega arith)
differing-append (x ∷ a) (y ∷ b) c d e = by (eqb x y) (differing (a ++ c) (b ++ d)) (differing a b) (differing c d) (differing-append a b c d (suc_inj e))
  where
    by : (t : Bool) (n k j : ℕ) → n ≡ k + j → cond t n (suc n) ≡ cond t k (suc k) + j
    by true n k j h = h
    by false n k j h = omega arith

pub differing-combined : (k l m : List ℕ) → length k ≡ length l → length k ≡ length m → differing (combined k l) (combined k m) ≡ differing l m
unfolding differing combined
differing-combined [] [] m e f = refl
differing-combined [] (y ∷ l) m e f = absurd (omega arith)
differing-combined (x ∷ k) [] m e f = absurd (omega arith)
differing-combined (x ∷ k) (y ∷ l) [] e f = absurd (omega arith)
differing-combined (x ∷ k) (y ∷ l) (z ∷ m) e f = ap₂ (λ (t : Bool) (n : ℕ). cond t n (suc n)) (test (eqb y z) refl) (differing-combined k l m (suc_inj e) (suc_inj f))
  where
    test : (t : Bool) → eqb y z ≡ t → eqb (bit_xor x y) (bit_xor x z) ≡ t
    test true t = eq-eqb (bit_xor x y) (bit_xor x z) (ap (bit_xor x) (eqb-true y z t))
    test false t = ne_eqb (bit_xor x y) (bit_xor x z) (λ same. eqb-false y z t (sym (xor-twice x y) ∙ ap (bit_xor x) same ∙ xor-twice x z))

-- ---- a list between two others: in k of the places where they differ the second's number, elsewhere the first's

pub record Between (l m : List ℕ) (k : ℕ) : Type 0 where
  pub list : List ℕ
  pub size : length list ≡ length l
  pub bytes : Bytes list
  pub from_first : differing list l ≡ k
  pub from_second : differing list m + k ≡ differing l m

pub list-between : (l m : List ℕ) → length l ≡ length m → Bytes l → Bytes m → (k : ℕ) → k ≤ differing l m → Between l m k
unfolding differing
list-between [] [] e bl bm k h = record { list = []; size = refl; bytes = bytes-none; from_first = omega arith; from_second = omega arith }
list-between [] (y ∷ m) e bl bm k h = absurd (omega arith)
list-between (x ∷ l) [] e bl bm k h = absurd (omega arith)
list-between (x ∷ l) (y ∷ m) e bl bm k h = by (eqb x y) refl k h (λ j g. list-between l m (suc_inj e) (λ i. bl (suc i)) (λ i. bm (suc i)) j g)
  where
    by : (t : Bool) → eqb x y ≡ t → (k : ℕ) → k ≤ cond t (differing l m) (suc (differing l m)) → ((j : ℕ) → j ≤ differing l m → Between l m j)
        → Between (x ∷ l) (y ∷ m) k
    by true t k h rest =
        let below = rest k h in
        record {
          list = x ∷ below.list;
          size = ap suc below.size;
          bytes = bytes-cons x below.list (bl 0) below.bytes;
          from_first = rw (eq-eqb x x refl) below.from_first;
          from_second = rw t below.from_second;
        }
    by false t zero h rest =
        record {
          list = x ∷ l;
          size = refl;
          bytes = bl;
          from_first = rw (eq-eqb x x refl) (differing-self l);
          from_second = rw t (add-zero (suc (differing l m)));
        }
    by false t (suc k) h rest =
        let below = rest k (le_of_suc-le-suc h) in
        record {
          list = y ∷ below.list;
          size = ap suc below.size;
          bytes = bytes-cons y below.list (bm 0) below.bytes;
          from_first = rw (ne_eqb y x (λ same. eqb-false x y t (sym same))) (ap suc below.from_first);
          from_second = rw (eq-eqb y y refl, t) (omega (arith, below.from_second));
        }
