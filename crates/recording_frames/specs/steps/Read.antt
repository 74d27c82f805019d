-- What reading the frames finds and leaves: `before` at entry, `after` at exit; b are the bits from the recording's first on.
use Rattle.std.specs.Prelude.{◌≡◌, true, false, List, ◌++◌, ℕ, ◌+◌, ◌*◌, ◌<◌, length, take, drop, Option, Some, None, IfNone, SomeIff}
use Rattle.frame_bits.specs.FrameBits.{row_from}
use Rattle.recording.specs.Reading.{no_frame, frame_bits_in, dc_word_in, first_no_frame, cluster_in, dc_in}
use Rattle.sizes.specs.Sizes.{work_size, frame_count, row_size}

-- the answer on frame n
pub record FrameAnswer (b : List ℕ) (n : ℕ) (answer : Option ℕ) : Type 0 where
  pub found : (dc : ℕ) → answer ≡ Some dc → (no_frame b n ≡ false) × (dc ≡ dc_word_in b n)
  pub none : answer ≡ None → no_frame b n ≡ true

-- the answers on frames n and n + 1; where both are found, their rows stand in their places of the cluster
pub record TwoFrames (b : List ℕ) (n : ℕ) (before : List ℕ) (first second : Option ℕ) (after : List ℕ) : Type 0 where
  pub one : FrameAnswer b n first
  pub two : FrameAnswer b (n + 1) second
  pub rows : no_frame b n ≡ false → no_frame b (n + 1) ≡ false
      → after ≡ take (row_size * n) before ++ ((row_from (frame_bits_in b n) ++ row_from (frame_bits_in b (n + 1))) ++ drop 310 (drop (row_size * n) before))
  pub size : length after ≡ length before

-- the frames up to the first that no bits give; where there is none, the dc words and the cluster
pub record FramesRead (b : List ℕ) (answer : Option ℕ) (dc work : List ℕ) : Type 0 where
  pub first : SomeIff answer (first_no_frame b < frame_count) (first_no_frame b)
  pub dc-is : IfNone answer (dc ≡ dc_in b)
  pub work-is : IfNone answer (work ≡ cluster_in b)
  pub size : length work ≡ work_size
