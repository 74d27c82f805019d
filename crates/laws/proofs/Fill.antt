-- A loop that fills a list from the front, an element or a part a turn. Assumes nothing.
use mathlib.Core.Path.{◌≡◌, refl, sym, ap, ◌∙◌}
use mathlib.Core.List.{List, ◌++◌, [], ◌∷◌, append-nil}
use Prim.Native.Nat.{ℕ, ◌+◌, ◌-◌, ◌<◌, ◌≤◌, suc}
use native.Mathlib.Nat.{not-suc-le-zero}
use native.Mathlib.Decide.{dec_lt}
use native.Mathlib.Omega.{arith}
use borrow.Author.Count.{below_more}
use lib.ListN.{length, get_or, set, take, drop, length-set, length-append, length-drop, get_or-append, drop_of_length-le}
use lib.Seq.{sets, sets-eq, take_at, get_or-set_same, get_or-set_other, length-take-le, get_or-take, get_or-append-add}
use Rattle.laws.specs.Tabulate.{tabulate}
use Rattle.laws.proofs.Tabulate.{is-tabulate}

-- l has n elements, of which the first i are f's; d is what `get_or` gives past the end
pub record Upto {A : Type 0} (d : A) (f : ℕ → A) (n i : ℕ) (l : List A) : Type 0 where
  pub within : i ≤ n
  pub size : length l ≡ n
  pub below : (k : ℕ) → k < i → get_or l k d ≡ f k

module _ {A : Type 0} {d : A} {f : ℕ → A} {n : ℕ} where
  pub upto-none : {l : List A} → length l ≡ n → Upto d f n 0 l
  upto-none size = record { within = omega arith; size = size; below = λ k h. absurd (not-suc-le-zero h) }

  -- one element more
  pub upto-more : {i : ℕ} {l : List A} {v : A} → i < n → v ≡ f i → Upto d f n i l → Upto d f n (i + 1) (set l i v)
  upto-more {i} {l} {v} h e u =
      record {
        within = omega arith;
        size = length-set l i v ∙ u.size;
        below =
            below_more (λ k. get_or (set l i v) k d ≡ f k) i
            (λ k lt. get_or-set_other l i k v d (λ q. omega (arith, q)) ∙ u.below k lt)
            (get_or-set_same l i v d (omega (arith, u.size)) ∙ e);
      }

  -- one part more: p, of m elements, stands at a, as a call on `&mut l[a..a + m]` leaves it
  pub upto-part : {a i : ℕ} {l : List A} (m : ℕ) (p : List A) → i ≡ a + m → i ≤ n → length p ≡ m → ((k : ℕ) → k < m → get_or p k d ≡ f (a + k)) → Upto d f n a l
      → Upto d f n i (take a l ++ (p ++ drop m (drop a l)))
  upto-part {a} {i} {l} m p e h s g u = record { within = h; size = len; below = at }
    where
      front : length (take a l) ≡ a
      front = length-take-le a l (omega (arith, u.size))

      len : length (take a l ++ (p ++ drop m (drop a l))) ≡ n
      len =
          omega (
            arith,
            length-append (take a l) (p ++ drop m (drop a l)),
            length-append p (drop m (drop a l)),
            length-drop m (drop a l),
            length-drop a l,
            front,
            u.size,
          )

      at : (k : ℕ) → k < i → get_or (take a l ++ (p ++ drop m (drop a l))) k d ≡ f k
      at k lt =
          elim (dec_lt k a) [
            | yes b ↦ get_or-append (take a l) (p ++ drop m (drop a l)) d k (omega (arith, front)) ∙ get_or-take a l k d b ∙ u.below k b
            | no b ↦
                let q : k ≡ length (take a l) + (k - a) = omega (arith, front) in
                let r : a + (k - a) ≡ k = omega arith in
                ap (λ (j : ℕ). get_or (take a l ++ (p ++ drop m (drop a l))) j d) q
                ∙ get_or-append-add (take a l) (p ++ drop m (drop a l)) (k - a) d
                ∙ get_or-append p (drop m (drop a l)) d (k - a) (omega arith)
                ∙ g (k - a) (omega arith)
                ∙ ap f r
          ]

  pub upto_all : {i : ℕ} {l : List A} → n ≤ i → Upto d f n i l → l ≡ tabulate n f
  upto_all {i} {l} h u = is-tabulate d n f l u.size (λ k lt. u.below k (omega arith))

-- a fill with the elements of another list, to its end
pub upto-same : {A : Type 0} {d : A} {n i : ℕ} {l m : List A} → n ≤ i → length m ≡ n → Upto d (λ k. get_or m k d) n i l → l ≡ m
upto-same {d = d} {n = n} {m = m} h size u = upto_all h u ∙ sym (is-tabulate d n (λ k. get_or m k d) m size (λ k _. refl))

-- what is written behind i elements stands behind them
pub sets-front : (l vs : List ℕ) (i n : ℕ) → n ≡ i + length vs → n ≤ length l → take n (sets l i vs) ≡ take i l ++ vs
sets-front l vs i n e h =
    ap (take n) (sets-eq vs l i (omega arith))
    ∙ take_at (take i l ++ vs) (drop (i + length vs) l) n (length-append (take i l) vs ∙ omega (arith, length-take-le i l (omega arith)))

-- a list written in two parts
pub sets-append : (vs ws l : List ℕ) (i : ℕ) → sets l i (vs ++ ws) ≡ sets (sets l i vs) (i + length vs) ws
sets-append [] ws l i = ap (λ (k : ℕ). sets l k ws) (none i)
  where
    none : (i : ℕ) → i ≡ i + 0
    none i = omega arith
sets-append (v ∷ vs) ws l i = sets-append vs ws (set l i v) (suc i) ∙ ap (λ (k : ℕ). sets (sets (set l i v) (suc i) vs) k ws) (one_on i (length vs))
  where
    one_on : (i n : ℕ) → suc i + n ≡ i + suc n
    one_on i n = omega arith

-- a list written over as a whole
pub sets-whole : (vs l : List ℕ) → length vs ≡ length l → sets l 0 vs ≡ vs
sets-whole vs l e =
    sets-eq vs l 0 (omega arith) ∙ ap (◌++◌ vs) (drop_of_length-le l {i = 0 + length vs} (omega arith)) ∙ append-nil vs
