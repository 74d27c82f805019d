-- Document 02, W-212: what is promised of the bits that a word needs. That their number is the least, and the only such, stands in proofs/Fixing
-- (`needed-is`, `needed-only`); that the words make the frame, in proofs/Starts (`starts-next`, `words-frame`). Assumes nothing.
use mathlib.Core.Path.{◌≡◌, refl, sym, ap, subst, ◌∙◌}
use mathlib.Core.Bool.{Bool, false, true≢false}
use mathlib.Core.List.{List, [], ◌∷◌, ◌++◌}
use Prim.Native.Nat.{ℕ, ◌*◌, ◌<◌, ◌≤◌}
use native.Mathlib.Decide.{dec_lt}
use native.Mathlib.Omega.{arith}
use borrow.Author.Tests.{le-ltb}
use lib.ListN.{length}
use Rattle.laws.specs.First.{first}
use Rattle.laws.specs.Same.{same}
use Rattle.laws.proofs.Same.{same_refl}
use Rattle.modulation.specs.Modulation.{Two, d00, d01, d11, modulate_from}
use Rattle.modulation.specs.Bits.{pairs, bits}
use Rattle.modulation.proofs.Bits.{pairs-take}
use Rattle.word_needs.specs.Needed.{word_bits, needed, word_starts, starts_from, most, most_needed}
use Rattle.word_needs.specs.Promise.{farthest, ReachAtMost, Needs, start_at, Most}
use Rattle.word_needs.specs.steps.Walk.{walk_word}
use Rattle.word_needs.proofs.Fixing.{all-fix, needed-is, needed-only}
use Rattle.word_needs.proofs.Walk.{walk_is, needed-some, walk-word-most, six-fix}
use Rattle.word_needs.proofs.Starts.{needed-bit, most-from, most-none, most-bound, first_word}

-- ---- the number

-- THE BIT BEFORE NEVER MATTERS
pub bit-before : (b c : Bool) (ds : List Two) → needed b ds ≡ needed c ds
unfolding needed first
bit-before b c [] = refl
bit-before b c (d ∷ ds) = needed-bit b c d ds

-- one pair at least, and no more than are left
pub at-least-two : (b : Bool) (d : Two) (ds : List Two) → 2 ≤ 2 * needed b (d ∷ ds)
at-least-two b d ds = omega (arith, needed-some b d ds)

pub within-frame : (b : Bool) (ds : List Two) → needed b ds ≤ length ds
within-frame b ds =
    elim (dec_lt (length ds) (needed b ds)) [
      | yes h ↦ absurd ((needed-is b ds).least (length ds) h (all-fix b ds))
      | no h ↦ omega arith
    ]

-- ---- the bound

-- A WORD'S MODULATION BITS DEPEND ON THE BIT BEFORE IT AND ON 12 BITS FROM ITS START ON, OR ON ALL THAT ARE LEFT
pub reach-twelve : ReachAtMost farthest
reach-twelve = record { fixed = λ b l m e. six-fix b (pairs l) (pairs m) (pairs-take 6 l ∙ ap pairs e ∙ sym (pairs-take 6 m)) }

pub needs-twelve : (b : Bool) (ds : List Two) → 2 * needed b ds ≤ farthest
needs-twelve b [] = omega (arith, within-frame b [])
needs-twelve b (d ∷ ds) = omega (arith, (walk_is b d ds).needs, walk-word-most (d ∷ ds))

-- 110111000001 AT A WORD'S START MEETS IT, WHATEVER FOLLOWS
abbrev pub meeting : List ℕ
meeting = 1 ∷ 1 ∷ 0 ∷ 1 ∷ 1 ∷ 1 ∷ 0 ∷ 0 ∷ 0 ∷ 0 ∷ 0 ∷ 1 ∷ []

pub bound-met : (b : Bool) (more : List Two) → 2 * needed b (pairs meeting ++ more) ≡ farthest
bound-met b more =
    let ds : List Two = d01 ∷ d11 ∷ d00 ∷ d00 ∷ d01 ∷ more in
    let six : (walk_word (d11 ∷ ds)).needs ≡ 6 = rw (le-ltb (length ds) 3 (omega arith)) refl in
    omega (arith, (walk_is b d11 ds).needs, six)

-- so 10 bits do not reach
pub ten-fails : ReachAtMost 10 → ⊥
unfolding modulate_from
ten-fails reach =
    let other : List ℕ = 1 ∷ 1 ∷ 0 ∷ 1 ∷ 1 ∷ 1 ∷ 0 ∷ 0 ∷ 0 ∷ 0 ∷ 1 ∷ 0 ∷ [] in
    true≢false (sym (same_refl (word_bits false (pairs meeting))) ∙ ap (same (word_bits false (pairs meeting))) (reach.fixed false meeting other refl))

-- THE FRAME'S END COUNTS AS KNOWN: 110111 AS ITS LAST SIX BITS NEEDS 2
pub end_known : (b : Bool) → 2 * needed b (d11 ∷ d01 ∷ d11 ∷ []) ≡ 2
end_known b = ap (λ (n : ℕ). 2 * n) (walk_is b d11 (d01 ∷ d11 ∷ [])).needs

-- ---- the words of a frame

-- THE MOST THAT ANY OF THEM NEEDS
pub most-it : (b : Bool) (ds : List Two) → 0 < length ds → Most b ds (most_needed b ds)
most-it b [] h = absurd (omega arith)
most-it b (d ∷ ds) h =
    let m = first_word b d ds in
    let s = start_at b (d ∷ ds) m.index in
    record {
      bound = λ i h n needs.
          omega (arith, most-bound (word_starts b (d ∷ ds)) i h, needed-only (start_at b (d ∷ ds) i).bit (start_at b (d ∷ ds) i).left n needs);
      met = (m.index, (m.below, subst (Needs s.bit s.left) m.needs (needed-is s.bit s.left)));
    }

pub only-most : (b : Bool) (ds : List Two) (j k : ℕ) → Most b ds j → Most b ds k → j ≡ k
only-most b ds j k p q =
    omega (arith, q.bound p.met.0 p.met.1.0 j p.met.1.1, p.bound q.met.0 q.met.1.0 k q.met.1.1)

-- IT IS THE SAME AFTER BOTH BITS, 2 BITS AT LEAST AND 12 AT MOST
pub most-bit-before : (b c : Bool) (ds : List Two) → most_needed b ds ≡ most_needed c ds
most-bit-before b c ds = most-from ds 0 b c

pub most-two : (b : Bool) (ds : List Two) → 0 < length ds → 2 ≤ 2 * most_needed b ds
unfolding starts_from most
most-two b [] h = absurd (omega arith)
most-two b (d ∷ ds) h = omega (arith, needed-some b d ds, most-bound (word_starts b (d ∷ ds)) 0 (omega arith))

pub most-twelve : (b : Bool) (ds : List Two) → 2 * most_needed b ds ≤ farthest
most-twelve b [] = omega (arith, most-none b)
most-twelve b (d ∷ ds) =
    let m = first_word b d ds in
    let s = start_at b (d ∷ ds) m.index in
    omega (arith, m.needs, needs-twelve s.bit s.left)

-- a frame in which 110111000001 stands at some word's start
pub met-in-frame : (b : Bool) (ds : List Two) (i : ℕ) → i < length (word_starts b ds) → (more : List Two) → (start_at b ds i).left ≡ pairs meeting ++ more
    → 2 * most_needed b ds ≡ farthest
met-in-frame b ds i h more e =
    let s = start_at b ds i in
    omega (arith, most-twelve b ds, ap (needed s.bit) e, bound-met s.bit more, most-bound (word_starts b ds) i h)
