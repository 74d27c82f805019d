-- The words of a frame: one behind the other they are the frame's modulation bits; how many pairs the most needing one needs does not depend
-- on the bit before; and word by word, as it is computed. Assumes nothing.
use mathlib.Core.Path.{◌≡◌, refl, sym, ap, ap₂, ◌∙◌}
use mathlib.Core.Bool.{Bool, false}
use mathlib.Core.List.{List, [], ◌∷◌, ◌++◌}
use Prim.Native.Nat.{ℕ, zero, suc, ◌-◌, ◌<◌, ◌≤◌, max}
use native.Mathlib.Nat.{not-suc-le-zero, le_of_suc-le-suc}
use native.Mathlib.Decide.{dec_lt}
use native.Mathlib.Omega.{arith}
use lib.ListN.{length, get_or, drop, length-append}
use Rattle.laws.proofs.Booleans.{and_left}
use Rattle.modulation.specs.Modulation.{Two, two_number, starts, last_bit, modulate_from, modulate}
use Rattle.modulation.specs.Bits.{bits}
use Rattle.modulation.proofs.Bits.{bits-append}
use Rattle.modulation.proofs.Fronts.{two-injective, starts-split}
use Rattle.modulation.proofs.Words.{row-size, drop-behind, some-row}
use Rattle.word_needs.specs.Needed.{row_taken, needed, WordStart, starts_from, word_starts, most, most_needed}
use Rattle.word_needs.specs.Promise.{nowhere, words_bits}
use Rattle.word_needs.specs.steps.Walk.{walk_word}
use Rattle.word_needs.proofs.Walk.{walk_is}

-- ---- one behind the other

words-from : (ds : List Two) (k : ℕ) (b : Bool) → words_bits (starts_from ds k b) ≡ bits (modulate_from ds k b).groups
unfolding starts_from words_bits modulate_from
words-from [] k b = refl
words-from (d ∷ ds) (suc k) b = words-from ds k b
words-from (d ∷ ds) zero b =
    let r = row_taken b (d ∷ ds) in
    let n = length r.pairs - 1 in
    let c = last_bit false r.groups in
    ap (λ (l : List ℕ). bits r.groups ++ l) (words-from ds n c) ∙ sym (bits-append r.groups (modulate_from ds n c).groups)

-- THE WORDS, ONE BEHIND THE OTHER, ARE THE FRAME'S MODULATION BITS
pub words-frame : (b : Bool) (ds : List Two) → words_bits (word_starts b ds) ≡ bits (modulate b ds).groups
words-frame b ds = words-from ds 0 b

-- ---- the bit before

pub needed-bit : (b c : Bool) (d : Two) (ds : List Two) → needed b (d ∷ ds) ≡ needed c (d ∷ ds)
needed-bit b c d ds = (walk_is b d ds).needs ∙ sym (walk_is c d ds).needs

size-bit : (b c : Bool) (d : Two) (ds : List Two) → length (row_taken b (d ∷ ds)).pairs ≡ length (row_taken c (d ∷ ds)).pairs
size-bit b c d ds = (walk_is b d ds).size ∙ sym (walk_is c d ds).size

pub most-from : (ds : List Two) (k : ℕ) (b c : Bool) → most (starts_from ds k b) ≡ most (starts_from ds k c)
unfolding starts_from most
most-from [] k b c = refl
most-from (d ∷ ds) (suc k) b c = most-from ds k b c
most-from (d ∷ ds) zero b c =
    let next : Bool → Bool = λ b. last_bit false (row_taken b (d ∷ ds)).groups in
    ap₂ max (needed-bit b c d ds)
    (most-from ds (length (row_taken b (d ∷ ds)).pairs - 1) (next b) (next c)
    ∙ ap (λ (n : ℕ). most (starts_from ds (n - 1) (next c))) (size-bit b c d ds))

-- ---- word by word

skip : (ds : List Two) (k : ℕ) (b : Bool) → starts_from ds k b ≡ word_starts b (drop k ds)
unfolding starts_from
skip [] zero b = refl
skip [] (suc k) b = refl
skip (d ∷ ds) zero b = refl
skip (d ∷ ds) (suc k) b = skip ds k b

-- the next word begins behind the pairs of the first
pub starts-next : (b : Bool) (d : Two) (ds : List Two)
    → word_starts b (d ∷ ds)
    ≡ record { bit = b; left = d ∷ ds } ∷ word_starts (last_bit false (row_taken b (d ∷ ds)).groups) (drop (length (row_taken b (d ∷ ds)).pairs) (d ∷ ds))
unfolding starts_from
starts-next b d ds =
    let r = row_taken b (d ∷ ds) in
    let n = length r.pairs in
    let c = last_bit false r.groups in
    ap (λ (l : List WordStart). record { bit = b; left = d ∷ ds } ∷ l)
    (skip ds (n - 1) c ∙ ap (word_starts c) (drop-behind d ds n (row-size (some-row b d ds)).1))

module _ (d : Two) (ds : List Two) where
  pub size-some : 1 ≤ (walk_word (d ∷ ds)).size
  size-some = omega (arith, (walk_is false d ds).size, (row-size (some-row false d ds)).1)

  pub size-most : (walk_word (d ∷ ds)).size ≤ suc (length ds)
  size-most =
      let r = row_taken false (d ∷ ds) in
      let stands = starts-split two_number two-injective r.pairs (d ∷ ds) (and_left (starts two_number r.pairs (d ∷ ds)) _ (some-row false d ds).passed) in
      omega (arith, (walk_is false d ds).size, ap length stands, length-append r.pairs (drop (length r.pairs) (d ∷ ds)))

  -- from a word's start on, and from the next
  pub most-word : (b : Bool) → most_needed b (d ∷ ds) ≡ max (walk_word (d ∷ ds)).needs (most_needed b (drop (walk_word (d ∷ ds)).size (d ∷ ds)))
  unfolding starts_from most
  most-word b =
      let r = row_taken b (d ∷ ds) in
      let n = length r.pairs in
      let is = walk_is b d ds in
      ap₂ max is.needs
      (most-from ds (n - 1) (last_bit false r.groups) b
      ∙ ap most (skip ds (n - 1) b)
      ∙ ap (λ (l : List Two). most_needed b l) (drop-behind d ds n (row-size (some-row b d ds)).1)
      ∙ ap (λ (k : ℕ). most_needed b (drop k (d ∷ ds))) is.size)

-- ---- the most

pub most-none : (b : Bool) → most_needed b [] ≡ 0
unfolding starts_from most
most-none b = refl

-- no word needs more
pub most-bound : (l : List WordStart) (i : ℕ) → i < length l → needed (get_or l i nowhere).bit (get_or l i nowhere).left ≤ most l
unfolding most
most-bound [] i h = absurd (not-suc-le-zero h)
most-bound (s ∷ l) zero h = omega arith
most-bound (s ∷ l) (suc i) h = omega (arith, most-bound l i (le_of_suc-le-suc h))

-- and one needs it
pub record MostMet (l : List WordStart) : Type 0 where
  pub index : ℕ
  pub below : index < length l
  pub needs : needed (get_or l index nowhere).bit (get_or l index nowhere).left ≡ most l

some-most : (s : WordStart) (l : List WordStart) → MostMet (s ∷ l)
unfolding most
some-most s [] = record { index = 0; below = omega arith; needs = omega arith }
some-most s (t ∷ l) = either (some-most t l)
  where
    either : MostMet (t ∷ l) → MostMet (s ∷ t ∷ l)
    either m =
        elim (dec_lt (needed s.bit s.left) (most (t ∷ l))) [
          | yes h ↦ record { index = suc m.index; below = omega (arith, m.below); needs = m.needs ∙ omega arith }
          | no h ↦ record { index = 0; below = omega arith; needs = omega arith }
        ]

-- a frame that is not empty has a first word
pub first_word : (b : Bool) (d : Two) (ds : List Two) → MostMet (word_starts b (d ∷ ds))
unfolding starts_from
first_word b d ds =
    let r = row_taken b (d ∷ ds) in
    some-most (record { bit = b; left = d ∷ ds }) (starts_from ds (length r.pairs - 1) (last_bit false r.groups))
