-- The tests as the code has them. Assumes nothing.
use Rattle.std.specs.Prelude.{Some, None}
use mathlib.Core.Path.{◌≡◌, refl, sym, ap, ap₂, ◌∙◌}
use mathlib.Core.Bool.{Bool, ◌&&◌, cond}
use mathlib.Core.List.{List}
use Prim.Native.Nat.{ℕ, ◌<◌}
use native.Mathlib.Omega.{arith}
use borrow.Author.Tests.{eq-eqb, ne_eqb}
use lib.Dec.{eqb}
use lib.ListN.{get_or}
use Rattle.answer.specs.declared.Answer.{Answer}
use Rattle.answer.specs.declared.Answer.TheVariants.{Done, LastBits, Frame, NoPsn}
use Rattle.answer.specs.Answer.{lowest}
use Rattle.answer.proofs.Tests.{lowest-here, lowest-none}
use Rattle.address.specs.declared.Psn.{Psn}
use Rattle.bis.specs.declared.PsnFound.{PsnFound}
use Rattle.bis.specs.declared.PsnFound.TheVariants.{Found, NotFound}
use Rattle.bis.specs.Reading.{psn_in}
use Rattle.recording_frames.specs.steps.Read.{FramesRead}
use Rattle.judging.specs.Tests.{last_bits_answer, frames_answer, found_answer, psn_answer}
use Rattle.judging.specs.steps.Tested.{FramesTested}

-- ---- 9; x and y are the bits that were read

module _ (b : List ℕ) (x : ℕ) (e : x ≡ get_or b 958302 0) where
  by_bits : (s t : Bool) → eqb (get_or b 958302 0) 0 ≡ s → eqb (get_or b 958303 0) 0 ≡ t → cond (s && t) Done LastBits ≡ last_bits_answer b
  unfolding last_bits_answer
  by_bits s t es et = sym (ap₂ (λ (p q : Bool). cond (p && q) Done LastBits) es et)

  pub last-but-one : (x ≡ 0 → ⊥) → LastBits ≡ last_bits_answer b
  last-but-one h = by_bits _ _ (ne_eqb (get_or b 958302 0) 0 (λ z. h (e ∙ z))) refl

  module _ (zero : x ≡ 0) (y : ℕ) (f : y ≡ get_or b 958303 0) where
    pub last_one : (y ≡ 0 → ⊥) → LastBits ≡ last_bits_answer b
    last_one h = by_bits _ _ (eq-eqb (get_or b 958302 0) 0 (sym e ∙ zero)) (ne_eqb (get_or b 958303 0) 0 (λ z. h (f ∙ z)))

    pub both_zero : y ≡ 0 → Done ≡ last_bits_answer b
    both_zero h = by_bits _ _ (eq-eqb (get_or b 958302 0) 0 (sym e ∙ zero)) (eq-eqb (get_or b 958303 0) 0 (sym f ∙ h))

-- ---- a test with a place: i is what the definition names, k what was found below n

pub placed : (refusal : ℕ → Answer) {n i k : ℕ} → (i < n) × (k ≡ i) → refusal k ≡ lowest refusal n i
placed refusal found = ap refusal found.1 ∙ sym (lowest-here refusal found.0)

pub unplaced : (refusal : ℕ → Answer) {n i : ℕ} → (i < n → ⊥) → Done ≡ lowest refusal n i
unplaced refusal none = sym (lowest-none refusal (omega (arith, none)))

-- ---- 11

frame-no-done : (n : ℕ) → Frame n ≡ Done → ⊥
frame-no-done n e = cc

pub frame-refused : {b : List ℕ} {n : ℕ} {dc work : List ℕ} → FramesRead b (Some n) dc work → FramesTested b (Frame n) dc work
unfolding frames_answer
frame-refused {n = n} read = record { answer-is = placed Frame read.first; dc-is = λ d. absurd (frame-no-done n d); work-is = λ d. absurd (frame-no-done n d); size = read.size }

pub frames-passed : {b dc work : List ℕ} → FramesRead b None dc work → FramesTested b Done dc work
unfolding frames_answer
frames-passed read = record { answer-is = unplaced Frame read.first; dc-is = λ d. read.dc-is; work-is = λ d. read.work-is; size = read.size }

-- ---- 14; p is what was found

module _ (block : List (List ℕ)) (p : PsnFound) (e : p ≡ psn_in block) where
  pub is_found : (psn : Psn) → p ≡ Found psn → record { answer = Done; psn = psn } ≡ psn_answer block
  unfolding psn_answer
  is_found psn f = ap found_answer (sym f ∙ e)

  pub is_none : p ≡ NotFound → record { answer = NoPsn; psn = record { 0 = 0 } } ≡ psn_answer block
  unfolding psn_answer
  is_none f = ap found_answer (sym f ∙ e)
