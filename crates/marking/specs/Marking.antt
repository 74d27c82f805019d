-- What mark says.
use Rattle.std.specs.Prelude.{List, ℕ}
use Rattle.laws.specs.Zeros.{zeros}
use Rattle.reader.specs.Outcome as reader
use Rattle.marker.specs.Marked.{marked}
use Rattle.report.specs.Words.{verdict_text}
use Rattle.sizes.specs.Sizes.{user_size, side_size, work_size, frame_count}

-- the slices that the image is read into
abbrev pub room : reader.Lent
room = record { user = zeros user_size; side = zeros side_size; dc = zeros frame_count; work = zeros work_size }

unfoldable pub mark_text : ℕ → List ℕ → List ℕ → List ℕ → List ℕ
mark_text psn user side image = verdict_text (marked psn user side image room).verdict
