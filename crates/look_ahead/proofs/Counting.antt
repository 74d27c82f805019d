-- The most that any word needs, word by word, as the loop has it. Assumes nothing.
use mathlib.Core.Path.{◌≡◌, sym, ap, ap₂, ◌∙◌}
use mathlib.Core.Bool.{Bool, false}
use mathlib.Core.List.{List, ◌∷◌}
use Prim.Native.Nat.{ℕ, suc, ◌+◌, ◌*◌, ◌<◌, ◌≤◌, max}
use native.Mathlib.Omega.{arith}
use lib.ListN.{length, get_or, drop, length-drop, drop_of_length-le}
use lib.Seq.{drop-cons, drop-drop}
use Rattle.modulation.specs.Modulation.{Two, d00}
use Rattle.modulation.specs.Bits.{pairs}
use Rattle.word_needs.specs.Needed.{most_needed}
use Rattle.word_needs.specs.steps.Walk.{Walked, walked, walk_word}
use Rattle.word_needs.proofs.Statements.{most-twelve}
use Rattle.word_needs.proofs.Starts.{size-some, size-most, most-word, most-none}

-- ---- the loop

-- the larger of `most` and what the words from pair p on need is what the frame's words need
pub record MostSoFar (ds : List Two) (most p : ℕ) : Type 0 where
  pub together : (b : Bool) → max most (most_needed b (drop p ds)) ≡ most_needed b ds
  pub inside : p ≤ 634

pub counting-none : (ds : List Two) → MostSoFar ds 0 0
counting-none ds = record { together = λ b. omega arith; inside = omega arith }

module _ (ds : List Two) (size : length ds ≡ 634) (most p : ℕ) (a : MostSoFar ds most p) where
  pub counting-all : 634 ≤ p → (b : Bool) → most ≡ most_needed b ds
  counting-all h b = omega (arith, a.together b, ap (most_needed b) (drop_of_length-le ds {i = p} (omega arith)) ∙ most-none b)

  pub counting-six : 634 ≤ p → most ≤ 6
  counting-six h = omega (arith, counting-all h false, most-twelve false ds)

  -- a word more
  module _ (h : p < 634) (needs count : ℕ) (word : walked needs count ≡ walk_word (drop p ds)) where
    front : drop p ds ≡ get_or ds p d00 ∷ drop (suc p) ds
    front = drop-cons ds p d00 (omega arith)

    there : walked needs count ≡ walk_word (get_or ds p d00 ∷ drop (suc p) ds)
    there = word ∙ ap walk_word front

    pub count-some : 1 ≤ count
    count-some = omega (arith, ap (λ (v : Walked). v.size) there, size-some (get_or ds p d00) (drop (suc p) ds))

    pub count_most : p + count ≤ 634
    count_most = omega (arith, ap (λ (v : Walked). v.size) there, size-most (get_or ds p d00) (drop (suc p) ds), length-drop (suc p) ds)

    word_first : (b : Bool) → most_needed b (drop p ds) ≡ max needs (most_needed b (drop (p + count) ds))
    word_first b =
        ap (most_needed b) front
        ∙ most-word (get_or ds p d00) (drop (suc p) ds) b
        ∙ ap₂ (λ (n : ℕ) (l : List Two). max n (most_needed b l)) (sym (ap (λ (v : Walked). v.needs) there))
        (ap₂ (λ (k : ℕ) (l : List Two). drop k l) (sym (ap (λ (v : Walked). v.size) there)) (sym front) ∙ drop-drop count p ds)

    pub counting_more : (next : ℕ) → next ≡ max most needs → MostSoFar ds next (p + count)
    counting_more next is = record { together = λ b. omega (arith, is, a.together b, word_first b); inside = count_most }

-- ---- in bits

pub bits-double : {m : ℕ} (l k : List ℕ) → ((b : Bool) → m ≡ most_needed b (pairs l)) → l ≡ k → (b : Bool) → 2 * m ≡ 2 * most_needed b (pairs k)
bits-double l k is e b = ap (λ (n : ℕ). 2 * n) (is b) ∙ ap (λ (k : List ℕ). 2 * most_needed b (pairs k)) e
