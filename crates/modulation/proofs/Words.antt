-- The frame word by word: some row of the table fits at every word's start, a word is its row's bits with the rest's behind them, and
-- what holds of the empty list and goes over a word holds of every list. Assumes nothing.
use mathlib.Core.Bool.{Bool, true, false, cond, ◌||◌}
use mathlib.Core.List.{List, [], ◌∷◌, ◌++◌, tail}
use mathlib.Core.Path.{◌≡◌, refl, sym, ap, ◌∙◌, subst}
use Prim.Native.Nat.{ℕ, zero, suc, ◌-◌, ◌<◌, ◌≤◌}
use native.Mathlib.Nat.{not-suc-le-zero, le_of_suc-le-suc}
use native.Mathlib.Omega.{arith}
use lib.Dec.{T, eqb, eqb→eq, leb, leb→le, ltb, ltb→lt}
use lib.ListN.{length, get_or, drop, length-append}
use Rattle.laws.proofs.Finite.{all, all-at}
use Rattle.modulation.specs.Modulation.{Two, d00, d01, d10, d11, two_number, Row, rows, no_row, row_at, starts, fits, choose, Rest, rest_behind, Modulated, terminates, last_bit, modulate_from, modulate}
use Rattle.modulation.proofs.Fronts.{two-injective, starts-split}
use Rattle.laws.proofs.Booleans.{and_left}

-- ---- the first row that passes

-- r is the first of the rows that passes
pub record First (passes : Row → Bool) (rs : List Row) (r : Row) : Type 0 where
  pub index : ℕ
  pub below : index < length rs
  pub is : get_or rs index no_row ≡ r
  pub passed : passes r ≡ true
  pub earlier : (i : ℕ) → i < index → passes (get_or rs i no_row) ≡ false

module _ (passes : Row → Bool) where
  here : (r : Row) (rs : List Row) → passes r ≡ true → First passes (r ∷ rs) (choose passes (r ∷ rs))
  here r rs e =
      subst (λ (x : Bool). First passes (r ∷ rs) (cond x r (choose passes rs))) (sym e)
      (record { index = 0; below = omega arith; is = refl; passed = e; earlier = λ i h. absurd (not-suc-le-zero h) })

  later : (r : Row) (rs : List Row) → passes r ≡ false → First passes rs (choose passes rs) → First passes (r ∷ rs) (choose passes (r ∷ rs))
  later r rs e f =
      subst (λ (x : Bool). First passes (r ∷ rs) (cond x r (choose passes rs))) (sym e)
      (record { index = suc f.index; below = omega (arith, f.below); is = f.is; passed = f.passed; earlier = before })
    where
      before : (i : ℕ) → i < suc f.index → passes (get_or (r ∷ rs) i no_row) ≡ false
      before zero h = e
      before (suc i) h = f.earlier i (le_of_suc-le-suc h)

  -- where some row passes, one is chosen
  pub choose-first : (rs : List Row) (k : ℕ) → k < length rs → passes (get_or rs k no_row) ≡ true → First passes rs (choose passes rs)
  choose-first [] k h e = absurd (not-suc-le-zero h)
  choose-first (r ∷ rs) zero h e = here r rs e
  choose-first (r ∷ rs) (suc k) h e = either (passes r) refl (choose-first rs k (le_of_suc-le-suc h) e)
    where
      either : (x : Bool) → passes r ≡ x → First passes rs (choose passes rs) → First passes (r ∷ rs) (choose passes (r ∷ rs))
      either true q f = here r rs q
      either false q f = later r rs q f

-- ---- some row fits

record Fits (b : Bool) (ds : List Two) (rest : Rest) : Type 0 where
  index : ℕ
  below : T (ltb index 16)
  fit : fits (row_at index) b ds rest ≡ true

-- some row fits at the front of every list but the empty one
some_fits : (b : Bool) (d : Two) (ds : List Two) (rest : Rest) → Fits b (d ∷ ds) rest
some_fits b d00 [] rest = record { index = 15; below = tt; fit = refl }
some_fits b d00 (d00 ∷ []) rest = record { index = 14; below = tt; fit = refl }
some_fits b d00 (d00 ∷ d00 ∷ ds) rest = record { index = 2; below = tt; fit = refl }
some_fits b d00 (d00 ∷ d01 ∷ ds) rest = record { index = 3; below = tt; fit = refl }
some_fits b d00 (d00 ∷ d10 ∷ ds) rest = record { index = 4; below = tt; fit = refl }
some_fits b d00 (d00 ∷ d11 ∷ ds) rest = record { index = 5; below = tt; fit = refl }
some_fits b d00 (d01 ∷ ds) rest = record { index = 7; below = tt; fit = refl }
some_fits b d00 (d10 ∷ ds) rest = record { index = 8; below = tt; fit = refl }
some_fits b d00 (d11 ∷ ds) rest = record { index = 9; below = tt; fit = refl }
some_fits b d01 ds rest = record { index = 10; below = tt; fit = refl }
some_fits b d10 ds rest = record { index = 11; below = tt; fit = refl }
some_fits true d11 ds rest = record { index = 12; below = tt; fit = refl }
some_fits false d11 ds rest = record { index = 13; below = tt; fit = refl }

-- a fact of every row, by a test that is computed
pub row-fact : (p : Row → Bool) → T (all 16 (λ k. p (row_at k))) → {passes : Row → Bool} {r : Row} → First passes rows r → T (p r)
row-fact p t f = subst (λ (r : Row). T (p r)) f.is (all-at 16 (λ k. p (row_at k)) t f.index f.below)

-- a row has as many groups as pairs, and one at least
pub row-size : {passes : Row → Bool} {r : Row} → First passes rows r → (length r.groups ≡ length r.pairs) × (1 ≤ length r.pairs)
unfolding all
row-size {r = r} f = (
  eqb→eq (length r.groups) (length r.pairs) (row-fact (λ r. eqb (length r.groups) (length r.pairs)) tt f),
  leb→le 1 (length r.pairs) (row-fact (λ r. leb 1 (length r.pairs)) tt f),
)

-- ---- the word at the front

-- what is left of a list behind its first n elements
pub drop-behind : {A : Type 0} (x : A) (l : List A) (n : ℕ) → 1 ≤ n → drop (n - 1) l ≡ drop n (x ∷ l)
drop-behind x l zero h = absurd (not-suc-le-zero h)
drop-behind {A} x l (suc n) h = ap (λ (k : ℕ). drop {A = A} k l) (less n)
  where
    less : (n : ℕ) → suc n - 1 ≡ n
    less n = omega arith

pub modulate-none : (b : Bool) → modulate b [] ≡ record { groups = []; terminated = false }
unfolding modulate_from
modulate-none b = refl

pub skip : (ds : List Two) (k : ℕ) (b : Bool) → modulate_from ds k b ≡ modulate b (drop k ds)
unfolding modulate_from
skip [] zero b = refl
skip [] (suc k) b = refl
skip (d ∷ ds) zero b = refl
skip (d ∷ ds) (suc k) b = skip ds k b

-- the bit before what follows a row's word
abbrev pub next_bit : Row → Bool
next_bit r = last_bit false r.groups

-- a row's word in front of what its rest gives
abbrev pub in_front : Row → Modulated → Modulated
in_front r f = record { groups = r.groups ++ f.groups; terminated = terminates r.when || f.terminated }

-- the word at the front of ds, after the bit b: its row is the first that fits, its pairs stand in front, and its groups stand in front
-- of those of the rest
pub record Word (b : Bool) (ds : List Two) : Type 0 where
  pub row : Row
  pub rest : List Two
  pub first : First (λ r. fits r b ds (modulate_from (tail ds))) rows row
  pub split : ds ≡ row.pairs ++ rest
  pub behind-is : rest_behind row (modulate_from (tail ds)) ≡ modulate (next_bit row) rest
  pub gives : modulate b ds ≡ in_front row (modulate (next_bit row) rest)

module _ (b : Bool) (d : Two) (ds : List Two) where
  passes : Row → Bool
  passes r = fits r b (d ∷ ds) (modulate_from ds)

  chosen : First passes rows (choose passes rows)
  unfolding passes
  chosen =
      let f = some_fits b d ds (modulate_from ds) in
      choose-first passes rows f.index (ltb→lt f.index 16 f.below) f.fit

  -- the row that is taken
  pub some-row : First (λ r. fits r b (d ∷ ds) (modulate_from ds)) rows (choose (λ r. fits r b (d ∷ ds) (modulate_from ds)) rows)
  unfolding passes
  some-row = chosen

  pub word_at : Word b (d ∷ ds)
  unfolding passes modulate_from
  word_at =
      let r = choose passes rows in
      let n = length r.pairs in
      let behind-word = skip ds (n - 1) (next_bit r) ∙ ap (modulate (next_bit r)) (drop-behind d ds n (row-size chosen).1) in
      record {
        row = r;
        rest = drop n (d ∷ ds);
        first = chosen;
        split = starts-split two_number two-injective r.pairs (d ∷ ds) (and_left (starts two_number r.pairs (d ∷ ds)) _ chosen.passed);
        behind-is = behind-word;
        gives = ap (in_front r) behind-word;
      }

-- what holds of the empty list, and of a list if it holds of what its first word leaves, holds of every list
module _ (P : Bool → List Two → Type 0) (none : (b : Bool) → P b [])
    (more : (b : Bool) (d : Two) (ds : List Two) (f : Word b (d ∷ ds)) → P (next_bit f.row) f.rest → P b (d ∷ ds)) where
  within : (n : ℕ) (b : Bool) (ds : List Two) → length ds ≤ n → P b ds
  within zero b [] h = none b
  within zero b (d ∷ ds) h = absurd (not-suc-le-zero h)
  within (suc n) b ds h = front b ds h (within n)
    where
      front : (b : Bool) (ds : List Two) → length ds ≤ suc n → ((b : Bool) (ds : List Two) → length ds ≤ n → P b ds) → P b ds
      front b [] h ih = none b
      front b (d ∷ ds) h ih =
          let f = word_at b d ds in
          more b d ds f (ih (next_bit f.row) f.rest
          (omega (arith, ap length f.split, length-append f.row.pairs f.rest, row-size f.first)))

  pub by-words : (b : Bool) (ds : List Two) → P b ds
  by-words b ds = within (length ds) b ds (omega arith)
