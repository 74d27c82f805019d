-- The number of pairs that fix a word, as computed by trying every continuation, and as said of all of them (`needed-is`, `needed-only`).
-- Assumes nothing.
use mathlib.Core.Path.{◌≡◌, refl, sym, ap, subst, ◌∙◌}
use mathlib.Core.Bool.{Bool, true, false, ◌&&◌, false≢true}
use mathlib.Core.List.{List, [], ◌∷◌, ◌++◌}
use Prim.Native.Nat.{ℕ, zero, suc, ◌+◌, ◌-◌, ◌≤◌}
use native.Mathlib.Decide.{dec_lt}
use native.Mathlib.Omega.{arith}
use lib.ListN.{length, take, drop, length-append, length-drop, take-append-drop}
use lib.Seq.{take_all, take-take, take_at, length-take-le}
use Rattle.laws.specs.First.{first}
use Rattle.laws.proofs.First.{first_holds, first-all, ended}
use Rattle.laws.specs.Same.{same}
use Rattle.laws.proofs.Same.{same_true, same_refl}
use Rattle.laws.proofs.Booleans.{and_left, and_right, and-true}
use Rattle.modulation.specs.Modulation.{Two, d00, d01, d10, d11}
use Rattle.word_needs.specs.Needed.{word_bits, every, fixed_by, needed}
use Rattle.word_needs.specs.Promise.{Fixes, Needs}

-- ---- every list of n pairs

module _ (p q r s : Bool) where
  all-four : (p && (q && (r && s))) ≡ true → (p ≡ true) × (q ≡ true) × (r ≡ true) × (s ≡ true)
  all-four e =
      let rest = and_right p (q && (r && s)) e in
      let last = and_right q (r && s) rest in
      (and_left p (q && (r && s)) e, and_left q (r && s) rest, and_left r s last, and_right r s last)

  four-all : p ≡ true → q ≡ true → r ≡ true → s ≡ true → (p && (q && (r && s))) ≡ true
  four-all e f g h = and-true p (q && (r && s)) e (and-true q (r && s) f (and-true r s g h))

module _ (n : ℕ) (passes : List Two → Bool) where
  every_behind : Two → Bool
  every_behind d = every n (λ l. passes (d ∷ l))

  fronts : every (suc n) passes ≡ true → (d : Two) → every_behind d ≡ true
  unfolding every every_behind
  fronts e d00 = (all-four (every_behind d00) (every_behind d01) (every_behind d10) (every_behind d11) e).0
  fronts e d01 = (all-four (every_behind d00) (every_behind d01) (every_behind d10) (every_behind d11) e).1
  fronts e d10 = (all-four (every_behind d00) (every_behind d01) (every_behind d10) (every_behind d11) e).2
  fronts e d11 = (all-four (every_behind d00) (every_behind d01) (every_behind d10) (every_behind d11) e).3

pub every-at : (n : ℕ) (passes : List Two → Bool) → every n passes ≡ true → (l : List Two) → length l ≡ n → passes l ≡ true
unfolding every every_behind
every-at zero passes e [] h = e
every-at zero passes e (d ∷ l) h = absurd (omega arith)
every-at (suc n) passes e [] h = absurd (omega arith)
every-at (suc n) passes e (d ∷ l) h = every-at n (λ l. passes (d ∷ l)) (fronts n passes e d) l (omega arith)

pub every_of : (n : ℕ) (passes : List Two → Bool) → ((l : List Two) → length l ≡ n → passes l ≡ true) → every n passes ≡ true
unfolding every every_behind
every_of zero passes each = each [] refl
every_of (suc n) passes each =
    let of : (d : Two) → every n (λ l. passes (d ∷ l)) ≡ true = λ d. every_of n (λ l. passes (d ∷ l)) (λ l h. each (d ∷ l) (ap suc h)) in
    four-all (every_behind n passes d00) (every_behind n passes d01) (every_behind n passes d10) (every_behind n passes d11) (of d00) (of d01) (of d10) (of d11)

-- ---- the test of a number of pairs

module _ (b : Bool) (ds : List Two) where
  tried : ℕ → List Two → Bool
  tried k more = same (word_bits b (take k ds ++ more)) (word_bits b ds)

  fixes-test : (k : ℕ) → k ≤ length ds → Fixes b ds k → fixed_by b ds k ≡ true
  unfolding fixed_by tried
  fixes-test k h f = every_of (length ds - k) (tried k) each
    where
      each : (more : List Two) → length more ≡ length ds - k → tried k more ≡ true
      each more e =
          let front : length (take k ds) ≡ k = length-take-le k ds h in
          subst (λ (l : List ℕ). same l (word_bits b ds) ≡ true)
          (sym (f.same_bits (take k ds ++ more) (omega (arith, length-append (take k ds) more)) (take_at (take k ds) more k front)))
          (same_refl (word_bits b ds))

  test-fixes : (k : ℕ) → k ≤ length ds → fixed_by b ds k ≡ true → Fixes b ds k
  unfolding fixed_by tried
  test-fixes k h t = record { same_bits = λ es long front. at es long front }
    where
      at : (es : List Two) → length es ≡ length ds → take k es ≡ take k ds → word_bits b es ≡ word_bits b ds
      at es long front =
          let whole : take k ds ++ drop k es ≡ es = ap (λ (l : List Two). l ++ drop k es) (sym front) ∙ take-append-drop k es in
          ap (word_bits b) (sym whole)
          ∙ same_true (word_bits b (take k ds ++ drop k es)) (word_bits b ds)
          (every-at (length ds - k) (tried k) t (drop k es) (omega (arith, length-drop k es)))

  -- all that is left fixes the word
  pub all-fix : Fixes b ds (length ds)
  all-fix =
      record {
        same_bits = λ es long front.
            ap (word_bits b) (sym (take_all (length ds) es (omega arith)) ∙ front ∙ take_all (length ds) ds (omega arith));
      }

  -- more pairs fix it, too
  pub more-fix : (j k : ℕ) → j ≤ k → Fixes b ds j → Fixes b ds k
  more-fix j k h f =
      record {
        same_bits = λ es long front. f.same_bits es long (sym (take-take j k es h) ∙ ap (take j) front ∙ take-take j k ds h);
      }

  -- ---- the least

  -- IT IS THE LEAST NUMBER OF PAIRS THAT FIXES THE WORD, AND THE ONLY SUCH
  pub needed-is : Needs b ds (needed b ds)
  unfolding needed
  needed-is =
      elim (dec_lt (first (length ds) (fixed_by b ds)) (length ds)) [
        | yes h ↦
            let found = first_holds (length ds) (fixed_by b ds) h in
            record {
              fixes = test-fixes _ (omega arith) found.0;
              least = λ j below f. false≢true (sym (found.1.fails j below) ∙ fixes-test j (omega arith) f);
            }
        | no h ↦
            let past : length ds ≤ first (length ds) (fixed_by b ds) = omega arith in
            let end : first (length ds) (fixed_by b ds) ≡ length ds = ended (length ds) (fixed_by b ds) past in
            record {
              fixes = subst (Fixes b ds) (sym end) all-fix;
              least = λ j below f.
                  false≢true (sym (first-all (length ds) (fixed_by b ds) past j (omega arith)) ∙ fixes-test j (omega arith) f);
            }
      ]

  pub needed-only : (k : ℕ) → Needs b ds k → needed b ds ≡ k
  needed-only k n = only (needed b ds) needed-is
    where
      only : (m : ℕ) → Needs b ds m → m ≡ k
      only m o =
          elim (dec_lt m k) [
            | yes h ↦ absurd (n.least m h o.fixes)
            | no h ↦ elim (dec_lt k m) [
              | yes l ↦ absurd (o.least k l n.fixes)
              | no l ↦ omega arith
            ]
          ]
