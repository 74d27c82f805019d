-- The pass over a sector, where it stands: n bytes taken, the error-detection code (13.3) and the scrambling (13.4) worked together.
use Rattle.std.specs.Prelude.{◌≡◌, List, ℕ, ◌≤◌, length, take, drop}
use Rattle.edc.specs.Edc.{edc_of}
use Rattle.scrambling.specs.Scrambling.{scrambled}

-- Writing, n user bytes taken: their n scrambled bytes are written, the rest of the frame is as it was before, and the EDC's register holds the
-- remainder of those n.
pub record PassWriting (user stream before : List ℕ) (n : ℕ) (frame : List ℕ) (register : ℕ) : Type 0 where
  pub taken : n ≤ length user
  pub written : take n frame ≡ scrambled stream (take n user)
  pub rest : drop n frame ≡ drop n before
  pub remainder : register ≡ edc_of (take n user)

-- Reading, n bytes of a scrambled data frame taken: the EDC's register holds the remainder of those n, unscrambled.
pub record PassReading (frame stream : List ℕ) (n register : ℕ) : Type 0 where
  pub taken : n ≤ length frame
  pub remainder : register ≡ edc_of (scrambled stream (take n frame))
