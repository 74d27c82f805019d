-- Document 02, W-212: the answer for a frame given by its 155 bytes and dc word, and the most bits that any word of it needs.
use Rattle.std.specs.Prelude.{Bool, cond, List, ℕ, ◌*◌, ltb, length}
use Rattle.answer.specs.declared.Answer.{Answer}
use Rattle.answer.specs.declared.Answer.TheVariants.{Done, WrongRow, DcWord}
use Rattle.answer.specs.Answer.{is_done, and_then}
use Rattle.sizes.specs.Sizes.{row_size}
use Rattle.lengths.specs.Lengths.{sized}
use Rattle.modulation.specs.Bits.{pairs}
use Rattle.frame_bits.specs.FrameBits.{frame_bits}
use Rattle.word_needs.specs.Needed.{most_needed}

-- 8: a dc word above 0FFFFFFFh
abbrev pub dc_answer : ℕ → Answer
dc_answer dc = cond (ltb 0x0FFF_FFFF dc) (DcWord 0) Done

-- 21, then 8; from the number of bytes and the dc word
abbrev pub frame_answer : ℕ → ℕ → Answer
frame_answer size dc = and_then (sized size row_size WrongRow) (dc_answer dc)

pub record Outcome : Type 0 where
  pub answer : Answer
  pub bits : ℕ

-- b is the modulation bit before the frame, the last of its sync
unfoldable pub outcome : Bool → List ℕ → ℕ → Outcome
outcome b row dc =
    let a = frame_answer (length row) dc in
    record { answer = a; bits = cond (is_done a) (2 * most_needed b (pairs (frame_bits row dc))) 0 }
