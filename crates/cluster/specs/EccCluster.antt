-- The ECC cluster (13.14) of 65,536 user bytes, a PSN and 592 bytes of side data.
use Rattle.std.specs.Prelude.{cond, List, [], ◌≡◌, ℕ, ◌*◌, eqb, leb, length, take, drop}
use Rattle.laws.specs.Bytes.{Bytes}
use Rattle.sector.specs.DataFrame.{data_frame}
use Rattle.scrambling.specs.Scrambling.{scrambling_of, scrambled}
use Rattle.ldc.specs.LdcCluster.{ldc_byte}
use Rattle.bis.specs.BisBlock.{bis_block}
use Rattle.cluster.specs.Multiplex.{multiplexed}
use Rattle.sizes.specs.Sizes.{work_size, row_size, user_size}

-- the user bytes of a cluster
pub record User (user : List ℕ) : Type 0 where
  pub size : length user ≡ user_size
  pub bytes : Bytes user

-- sector F of 32: 2,048 user bytes
abbrev pub sector_of : List ℕ → ℕ → List ℕ
sector_of user F = take 2048 (drop (2048 * F) user)

-- data frame F (13.2, 13.3), scrambled with a stream (13.4)
abbrev pub scrambled_frames : List ℕ → List ℕ → ℕ → List ℕ
scrambled_frames stream user F = scrambled stream (data_frame (sector_of user F))

-- and with that of the PSN
abbrev pub frames : ℕ → List ℕ → ℕ → List ℕ
frames psn user = scrambled_frames (scrambling_of psn) user

unfoldable pub ecc_cluster : List ℕ → ℕ → List ℕ → List ℕ
ecc_cluster user psn side = multiplexed (ldc_byte (frames psn user)) (bis_block psn side)

-- row n, the bytes of recording frame n
abbrev pub row_of : List ℕ → ℕ → List ℕ
row_of work n = take row_size (drop (row_size * n) work)

-- the row that is shown of a lent slice; document 01: empty for n above 495, or a slice that is not 76,880 long
abbrev pub shown_row : List ℕ → ℕ → List ℕ
shown_row work n = cond (eqb (length work) work_size) (cond (leb n 495) (row_of work n) []) []
