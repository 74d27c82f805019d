-- Document 02, W-212: number, place and bits of every frame. Assumes nothing.
use mathlib.Core.Path.{◌≡◌, refl, sym, ap, subst, ◌∙◌}
use mathlib.Core.Bool.{Bool, true, false, cond}
use mathlib.Core.List.{List, ◌∷◌, ◌++◌}
use Prim.Native.Nat.{ℕ, ◌-◌, ◌*◌, ◌<◌, ◌≤◌}
use native.Mathlib.Decide.{dec_lt, ℕ_discrete}
use native.Mathlib.Omega.{arith}
use lib.ListN.{length, get_or, take, drop, take-append-drop}
use lib.Seq.{ext_get_or, get_or-take, length-take-le}
use Rattle.laws.proofs.Finite.{all, equal-below}
use Rattle.bits.specs.Bits.{bit_at, bits_of}
use Rattle.bits.proofs.Bits.{get_d_bits}
use Rattle.answer.specs.declared.Answer.TheVariants.{Done}
use Rattle.answer.specs.Answer.{number_of, place_of, is_done}
use Rattle.answer.proofs.Tests.{number-zero}
use Rattle.sizes.specs.Sizes.{row_size}
use Rattle.modulation.specs.Modulation.{Two}
use Rattle.modulation.specs.Bits.{pairs}
use Rattle.modulation.proofs.Bits.{length_pairs}
use Rattle.frame_bits.specs.FrameBits.{group, frame_bits}
use Rattle.frame_bits.proofs.FrameBits.{length-frame-bits, get_d-frame-bits, data-bit}
use Rattle.word_needs.specs.Needed.{word_starts, starts_from, most_needed}
use Rattle.word_needs.specs.Promise.{start_at, Most}
use Rattle.word_needs.proofs.Statements.{most-it, most-bit-before, most-two, most-twelve, meeting, met-in-frame}
use Rattle.look_ahead.specs.Outcome.{frame_answer, outcome}
use Rattle.look_ahead.specs.Promise.{RightFrame, MostBits, ReportsExactly}
use Rattle.look_ahead.proofs.Outcome.{frame-done, frame_right, frame-21, frame-8}

module _ (b : Bool) (row : List ℕ) (dc : ℕ) where
  ds : List Two
  ds = pairs (frame_bits row dc)

  some : 0 < length ds
  unfolding ds
  some = omega (arith, length_pairs (frame_bits row dc), length-frame-bits row dc)

  answer-is : (outcome b row dc).answer ≡ frame_answer (length row) dc
  unfolding outcome
  answer-is = refl

  bits-if : (x : Bool) → is_done (frame_answer (length row) dc) ≡ x → (outcome b row dc).bits ≡ cond x (2 * most_needed b ds) 0
  unfolding outcome ds
  bits-if x e = ap (λ (y : Bool). cond y (2 * most_needed b ds) 0) e

  -- ---- accepted

  module _ (right : RightFrame (length row) dc) where
    done : frame_answer (length row) dc ≡ Done
    done = frame_right (length row) dc right

    bits_are : (outcome b row dc).bits ≡ 2 * most_needed b ds
    bits_are = bits-if true (ap is_done done)

    reports : MostBits row dc (outcome b row dc).bits × ((2 ≤ (outcome b row dc).bits) × ((outcome b row dc).bits ≤ 12))
    unfolding ds
    reports = (
      record {
        count = most_needed b ds;
        twice = bits_are;
        most = λ c. subst (Most c ds) (most-bit-before c b ds) (most-it c ds some);
      },
      (omega (arith, bits_are, most-two b ds some), omega (arith, bits_are, most-twelve b ds)),
    )

    bits-from : {n : ℕ} → 2 * most_needed b (pairs (frame_bits row dc)) ≡ n → (outcome b row dc).bits ≡ n
    unfolding ds
    bits-from e = bits_are ∙ e

    -- WITH 110111000001 AT SOME WORD'S START A FRAME NEEDS 12 BITS
    pub meets : (i : ℕ) → i < length (word_starts b (pairs (frame_bits row dc))) → (more : List Two) → (start_at b (pairs (frame_bits row dc)) i).left ≡ pairs meeting ++ more
        → (outcome b row dc).bits ≡ 12
    unfolding ds
    meets i h more e = bits_are ∙ met-in-frame b ds i h more e

  -- ---- refused

  told-21 : (length row ≡ row_size → ⊥) → number_of (outcome b row dc).answer ≡ 21
  told-21 h = ap number_of (answer-is ∙ frame-21 (length row) dc h)

  told-8 : length row ≡ row_size → 0x0FFF_FFFF < dc → number_of (outcome b row dc).answer ≡ 8
  told-8 e h = ap number_of (answer-is ∙ frame-8 (length row) dc e h)

  -- one of the three
  which : {A : Type 0} → (RightFrame (length row) dc → A) → ((length row ≡ row_size → ⊥) → A) → (length row ≡ row_size → 0x0FFF_FFFF < dc → A) → A
  which right other large =
      elim (ℕ_discrete (length row) row_size) [
        | yes e ↦ elim (dec_lt 0x0FFF_FFFF dc) [ yes h ↦ large e h | no h ↦ right (record { row = e; dc-word = omega arith }) ]
        | no e ↦ other e
      ]

  -- NUMBER, PLACE AND BITS OF EVERY FRAME
  pub reports-exactly : ReportsExactly row dc (number_of (outcome b row dc).answer) (place_of (outcome b row dc).answer) (outcome b row dc).bits
  reports-exactly =
      record {
        zero-iff = (accepted, λ right. ap number_of (answer-is ∙ done right));
        reported = λ e. reports (accepted e);
        other-size = told-21;
        large-word = told-8;
        no_place =
            which (λ right. ap place_of (answer-is ∙ done right)) (λ h. ap place_of (answer-is ∙ frame-21 (length row) dc h))
            (λ e h. ap place_of (answer-is ∙ frame-8 (length row) dc e h));
        refused = λ not.
            which (λ right. absurd (not (ap number_of (answer-is ∙ done right)))) (λ h. bits-if false (ap is_done (frame-21 (length row) dc h)))
            (λ e h. bits-if false (ap is_done (frame-8 (length row) dc e h)));
      }
    where
      accepted : number_of (outcome b row dc).answer ≡ 0 → RightFrame (length row) dc
      accepted e = frame-done (length row) dc (ap is_done (sym answer-is ∙ number-zero (outcome b row dc).answer e))

-- ---- a frame that meets the bound: its bytes begin DCh, 10h

module _ (l : List ℕ) (dc : ℕ) where
  abbrev shown : List ℕ
  shown = 0xDC ∷ 0x10 ∷ l

  front : take 12 (frame_bits shown dc) ≡ meeting
  unfolding all
  front =
      let long : length (take 12 (frame_bits shown dc)) ≡ 12 = length-take-le 12 (frame_bits shown dc) (omega (arith, length-frame-bits shown dc)) in
      ext_get_or 0 (take 12 (frame_bits shown dc)) meeting long (λ j h. at j (omega (arith, long)))
    where
      at : (j : ℕ) → j < 12 → get_or (take 12 (frame_bits shown dc)) j 0 ≡ get_or meeting j 0
      at j h =
          let same : j - group j ≡ j = omega arith in
          get_or-take 12 (frame_bits shown dc) j 0 h
          ∙ get_d-frame-bits shown dc j (omega arith)
          ∙ data-bit shown dc j (λ e. omega arith)
          ∙ ap (λ (k : ℕ). get_or (bits_of shown) k 0) same
          ∙ get_d_bits shown j (omega arith)
          ∙ equal-below 12 (bit_at shown) (λ k. get_or meeting k 0) tt j h

  -- SUCH A FRAME IS ACCEPTED WITH 12 BITS
  pub shown-needs-12 : (b : Bool) → RightFrame (length shown) dc → (outcome b shown dc).bits ≡ 12
  unfolding starts_from
  shown-needs-12 b right =
      let more = drop 12 (frame_bits shown dc) in
      let whole : pairs (frame_bits shown dc) ≡ pairs meeting ++ pairs more =
      ap pairs (sym (take-append-drop 12 (frame_bits shown dc)) ∙ ap (λ (k : List ℕ). k ++ more) front)
      in
      bits-from b shown dc right (ap (λ (ds : List Two). 2 * most_needed b ds) whole ∙ met-in-frame b (pairs meeting ++ pairs more) 0 (omega arith) (pairs more) refl)
