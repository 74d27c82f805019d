-- Data frame (13.2): 2,048 bytes of user data and four of error-detection code.
use Rattle.std.specs.Prelude.{Bool, true, false, cond, ◌&&◌, List, ◌++◌, ℕ, eqb, length, take, drop}
use Rattle.bits.specs.Bits.{bits_of, number}
use Rattle.edc.specs.Edc.{edc_of, edc_bytes}
use Rattle.scrambling.specs.Scrambling.{scrambling_of, scrambled}

unfoldable pub data_frame : List ℕ → List ℕ
data_frame user = user ++ edc_bytes user

-- the scrambled data frame of a sector in the cluster of a PSN (13.4)
abbrev pub sector_frame : ℕ → List ℕ → List ℕ
sector_frame psn user = scrambled (scrambling_of psn) (data_frame user)

-- 2,052 bytes, of which the last four are the error-detection code of those before; so exactly where they make a multiple of G
-- (proofs/Frame: right-multiple, multiple-right)
unfoldable pub edc_right : List ℕ → Bool
edc_right frame = eqb (length frame) 2052 && eqb (number (bits_of (drop 2048 frame))) (edc_of (take 2048 frame))

-- what `data_frame` answers: whether it is done, and the lent frame
pub record Framed : Type 0 where
  pub done : Bool
  pub frame : List ℕ

abbrev pub framed : Bool → List ℕ → Framed
framed done frame = record { done = done; frame = frame }

-- done for 2,048 user bytes and a frame of 2,052; else the frame stays as it was
unfoldable pub framed_of : List ℕ → List ℕ → List ℕ → Framed
framed_of user stream frame =
    cond (eqb (length user) 2048 && eqb (length frame) 2052) (framed true (scrambled stream (data_frame user))) (framed false frame)
