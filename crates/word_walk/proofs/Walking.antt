-- The walk along a frame's pairs, as the loop has it. Assumes nothing.
use mathlib.Core.Path.{◌≡◌, refl, sym, ap, ap₂, ◌∙◌}
use mathlib.Core.Bool.{Bool, true, false, cond}
use mathlib.Core.List.{List, ◌∷◌}
use Prim.Native.Nat.{ℕ, suc, ◌+◌, ◌-◌, ◌<◌, ◌≤◌}
use native.Mathlib.Decide.{dec_lt}
use native.Mathlib.Omega.{arith}
use borrow.Author.Tests.{lt-ltb, le-ltb}
use lib.Dec.{ltb}
use lib.ListN.{length, get_or, drop, length-drop, drop_of_length-le}
use lib.Seq.{drop-cons}
use Rattle.modulation.specs.Modulation.{Two, d00, d01, d10, d11, two_number}
use Rattle.modulation.specs.Machine.{Wait, w, wait_number, wait_at}
use Rattle.modulation.proofs.Machine.{wait-back, wait-below}
use Rattle.modulation.specs.steps.Pairs.{two_of}
use Rattle.word_needs.specs.steps.Walk.{Told, wait, word_of, told, told_number, size_at_end, walked, onward, walk, ends_plain, walk_word}

-- ---- pairs by their numbers

pub two-of-back : (d : Two) → (two_of (two_number d) ≡ d) × (two_number d < 4)
two-of-back d00 = (refl, omega arith)
two-of-back d01 = (refl, omega arith)
two-of-back d10 = (refl, omega arith)
two-of-back d11 = (refl, omega arith)

-- ---- the loop

-- n pairs from p on are walked, and these wait
pub record Walking (ds : List Two) (p waits n : ℕ) : Type 0 where
  pub state : Wait
  pub number : waits ≡ wait_number state
  pub same : walk w 0 (drop p ds) ≡ walk state n (drop (p + n) ds)
  pub inside : p + n ≤ 634

pub walking-none : (ds : List Two) (p : ℕ) → p < 634 → Walking ds p 0 0
walking-none ds p h =
    let none : p ≡ p + 0 = omega arith in
    record { state = w; number = refl; same = ap (λ (k : ℕ). walk w 0 (drop k ds)) none; inside = omega arith }

module _ (ds : List Two) (size : length ds ≡ 634) (p waits n : ℕ) (a : Walking ds p waits n) where
  pub waits-below : waits < 10
  waits-below = omega (arith, a.number, wait-below a.state)

  -- the frame ends
  pub walking-end : 634 ≤ p + n → walked n (size_at_end (wait_at waits)) ≡ walk w 0 (drop p ds)
  walking-end h =
      ap (λ (s : Wait). walked n (size_at_end s)) (ap wait_at a.number ∙ wait-back a.state)
      ∙ sym (a.same ∙ ap (walk a.state n) (drop_of_length-le ds {i = p + n} (omega arith)))

  -- a pair more
  module _ (h : p + n < 634) (pair next : ℕ) (is : pair ≡ two_number (get_or ds (p + n) d00)) (tells : next ≡ told_number (told (wait_at waits) (two_of pair))) where
    d : Two
    d = get_or ds (p + n) d00

    tells-it : next ≡ told_number (told a.state d)
    unfolding d
    tells-it =
        tells
        ∙ ap₂ (λ (s : Wait) (e : Two). told_number (told s e)) (ap wait_at a.number ∙ wait-back a.state) (ap two_of is ∙ (two-of-back (get_or ds (p + n) d00)).0)

    goes : walk w 0 (drop p ds) ≡ onward (told a.state d) n (λ t. walk t (suc n) (drop (suc (p + n)) ds))
    unfolding d
    goes = a.same ∙ ap (walk a.state n) (drop-cons ds (p + n) d00 (omega arith))

    by_word : (t : Told) → next ≡ told_number t → 10 ≤ next → walked (n + 1) (next - 10) ≡ onward t n (λ t. walk t (suc n) (drop (suc (p + n)) ds))
    by_word (wait t) e l = absurd (omega (arith, wait-below t))
    by_word (word_of m) e l =
        let one : n + 1 ≡ suc n = omega arith in
        let rest : next - 10 ≡ m = omega arith in
        ap₂ walked one rest

    pub walking-fixed : 10 ≤ next → walked (n + 1) (next - 10) ≡ walk w 0 (drop p ds)
    walking-fixed l = by_word (told a.state d) tells-it l ∙ sym goes

    by-wait : (t : Told) → next ≡ told_number t → next < 10 → walk w 0 (drop p ds) ≡ onward t n (λ t. walk t (suc n) (drop (suc (p + n)) ds)) → Walking ds p next (n + 1)
    by-wait (wait t) e l g =
        let one : suc n ≡ n + 1 = omega arith in
        let on : suc (p + n) ≡ p + (n + 1) = omega arith in
        record { state = t; number = e; same = g ∙ ap₂ (λ (m k : ℕ). walk t m (drop k ds)) one on; inside = omega arith }
    by-wait (word_of m) e l g = absurd (omega arith)

    pub walking-more : next < 10 → Walking ds p next (n + 1)
    walking-more l = by-wait (told a.state d) tells-it l goes

-- ---- 11 before the frame's end

module _ (ds : List Two) (size : length ds ≡ 634) (p : ℕ) (h : p < 634) (pair : ℕ) (is : pair ≡ two_number (get_or ds p d00)) where
  by_first : (d : Two) (l : List Two) → pair ≡ two_number d → (pair ≡ 3 → ends_plain (d ∷ l) ≡ ltb (length l) 3) × ((pair ≡ 3 → ⊥) → ends_plain (d ∷ l) ≡ false)
  by_first d00 l e = (λ f. absurd (omega arith), λ f. refl)
  by_first d01 l e = (λ f. absurd (omega arith), λ f. refl)
  by_first d10 l e = (λ f. absurd (omega arith), λ f. refl)
  by_first d11 l e = (λ f. refl, λ f. absurd (f e))

  front : ends_plain (drop p ds) ≡ ends_plain (get_or ds p d00 ∷ drop (suc p) ds)
  front = ap ends_plain (drop-cons ds p d00 (omega arith))

  pub ends-11 : pair ≡ 3 → ltb 634 (p + 4) ≡ ends_plain (drop p ds)
  ends-11 e =
      let left = length-drop (suc p) ds in
      let few : ltb 634 (p + 4) ≡ ltb (length (drop (suc p) ds)) 3 =
      elim (dec_lt 634 (p + 4)) [
        | yes l ↦ lt-ltb 634 (p + 4) l ∙ sym (lt-ltb (length (drop (suc p) ds)) 3 (omega (arith, left)))
        | no l ↦ le-ltb 634 (p + 4) (omega arith) ∙ sym (le-ltb (length (drop (suc p) ds)) 3 (omega (arith, left)))
      ]
      in
      few ∙ sym (front ∙ (by_first (get_or ds p d00) (drop (suc p) ds) is).0 e)

  pub ends-other : (pair ≡ 3 → ⊥) → false ≡ ends_plain (drop p ds)
  ends-other f = sym (front ∙ (by_first (get_or ds p d00) (drop (suc p) ds) is).1 f)

-- ---- the word

module _ (ds : List Two) {x : Bool} (is : x ≡ ends_plain ds) where
  by : (y : Bool) → x ≡ y → cond y (walked 1 1) (walk w 0 ds) ≡ walk_word ds
  by y e = ap (λ (z : Bool). cond z (walked 1 1) (walk w 0 ds)) (sym e ∙ is)

  pub word-plain : x ≡ true → walked 1 1 ≡ walk_word ds
  word-plain e = by true e

  pub word-walked : x ≡ false → walk w 0 ds ≡ walk_word ds
  word-walked e = by false e
