-- What is answered, and with it the number of bits. Assumes nothing.
use mathlib.Core.Path.{◌≡◌, refl, sym, ap, ap₂, ◌∙◌}
use mathlib.Core.Bool.{Bool, true, false, cond}
use mathlib.Core.List.{List}
use Prim.Native.Nat.{ℕ, ◌*◌, ◌<◌, ◌≤◌}
use borrow.Author.Tests.{eq-eqb, ne_eqb, lt-ltb, le-ltb, ltb-false}
use lib.Dec.{ltb}
use lib.ListN.{length}
use Rattle.answer.specs.declared.Answer.{Answer}
use Rattle.answer.specs.declared.Answer.TheVariants.{Done, WrongRow, DcWord}
use Rattle.answer.specs.Answer.{is_done}
use Rattle.answer.proofs.Tests.{done-is, done-not, then-both, then-done}
use Rattle.sizes.specs.Sizes.{row_size}
use Rattle.lengths.specs.Lengths.{sized}
use Rattle.lengths.proofs.RightLengths.{sized-right, sized-done}
use Rattle.modulation.specs.Bits.{pairs}
use Rattle.frame_bits.specs.FrameBits.{frame_bits}
use Rattle.word_needs.specs.Needed.{most_needed}
use Rattle.look_ahead.specs.Outcome.{dc_answer, frame_answer, outcome}
use Rattle.look_ahead.specs.Promise.{RightFrame}

module _ (b : Bool) (row : List ℕ) (dc : ℕ) {a : Answer} (is : a ≡ frame_answer (length row) dc) where
  made : (n : ℕ) (x : Bool) → is_done a ≡ x → cond x (2 * most_needed b (pairs (frame_bits row dc))) 0 ≡ n → record { answer = a; bits = n } ≡ outcome b row dc
  unfolding outcome
  made n x e f = ap₂ (λ (a : Answer) (n : ℕ). record { answer = a; bits = n }) is (sym f ∙ ap (λ (y : Bool). cond y (2 * most_needed b (pairs (frame_bits row dc))) 0) (sym e ∙ ap is_done is))

  pub outcome-done : {n : ℕ} → is_done a ≡ true → n ≡ 2 * most_needed b (pairs (frame_bits row dc)) → record { answer = a; bits = n } ≡ outcome b row dc
  outcome-done e f = made _ true e (sym f)

  pub outcome-refused : is_done a ≡ false → record { answer = a; bits = 0 } ≡ outcome b row dc
  outcome-refused e = made 0 false e refl

-- ---- the answer

module _ (size dc : ℕ) where
  -- passed
  pub frame-done : is_done (frame_answer size dc) ≡ true → RightFrame size dc
  frame-done e =
      let both = then-done (sized size row_size WrongRow) (dc_answer dc) (done-is (frame_answer size dc) e) in
      record { row = sized-done WrongRow refl both.0; dc-word = dc-done (ltb 0x0FFF_FFFF dc) refl both.1 }
    where
      dc-done : (t : Bool) → ltb 0x0FFF_FFFF dc ≡ t → cond t (DcWord 0) Done ≡ Done → dc ≤ 0x0FFF_FFFF
      dc-done true h e = absurd (done-not (DcWord 0) refl e)
      dc-done false h e = ltb-false 0x0FFF_FFFF dc h

  pub frame_right : RightFrame size dc → frame_answer size dc ≡ Done
  frame_right right =
      then-both (sized size row_size WrongRow) (dc_answer dc) (sized-right WrongRow right.row) (rw (le-ltb 0x0FFF_FFFF dc right.dc-word) refl)

  -- 21, whatever the dc word is
  pub frame-21 : (size ≡ row_size → ⊥) → frame_answer size dc ≡ WrongRow
  frame-21 h = rw (ne_eqb size row_size h) refl

  -- then 8
  pub frame-8 : size ≡ row_size → 0x0FFF_FFFF < dc → frame_answer size dc ≡ DcWord 0
  frame-8 e h = rw (eq-eqb size row_size e) (rw (lt-ltb 0x0FFF_FFFF dc h) refl)
