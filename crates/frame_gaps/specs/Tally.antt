-- Document 01, the tally program: its input and its answer.
use Rattle.std.specs.Prelude.{Bool, ◌&&◌, cond, List, ◌∷◌, ◌++◌, ℕ, ◌^◌, eqb, ltb, length, get_or, drop, Option, Some, None}
use Rattle.big_endian.specs.Words.{word_at, four_bytes}
use Rattle.frame_sync.specs.Sync.{fs}
use Rattle.frame.specs.Frame.{frame}
use Rattle.gaps.specs.Gaps.{gap_counts}

-- the input is # (00h or 01h), a sync number from 0 to 6, a dc word of at most 0FFFFFFFh in four bytes, and 155 frame bytes
abbrev pub tally_dc : List ℕ → ℕ
tally_dc input = word_at input 2

abbrev pub is_tally_input : List ℕ → Bool
is_tally_input input = eqb (length input) 161 && (ltb (get_or input 0 0) 2 && (ltb (get_or input 1 0) 7 && ltb (tally_dc input) (2 ^ 28)))

-- the frame that the input gives
abbrev pub tally_frame : List ℕ → List ℕ
tally_frame input = frame (eqb (get_or input 0 0) 1) (fs (get_or input 1 0)) (drop 6 input) (tally_dc input)

-- its gap counts, or a refusal
unfoldable pub tallied : List ℕ → Option (List ℕ)
tallied input = cond (is_tally_input input) (Some (gap_counts (tally_frame input))) None

-- the 161 bytes that give a frame
abbrev pub input_of : Bool → ℕ → List ℕ → ℕ → List ℕ
input_of hash number row dc = cond hash 1 0 ∷ number ∷ (four_bytes dc ++ row)
