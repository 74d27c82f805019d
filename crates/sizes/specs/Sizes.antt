-- Document 01's sizes, each named once.
use Rattle.std.specs.Prelude.{ℕ}

-- the user data of a cluster, in bytes
abbrev pub user_size : ℕ
user_size = 65536

-- the side data, in bytes: 16 flag bytes and 576 bytes of user control data
abbrev pub side_size : ℕ
side_size = 592

-- the recording frames of a cluster: as many rows has the ECC cluster, and as many dc words there are
abbrev pub frame_count : ℕ
frame_count = 496

-- the dc words as bytes, four each
abbrev pub dc_size : ℕ
dc_size = 1984

-- a row of the ECC cluster, in bytes
abbrev pub row_size : ℕ
row_size = 155

-- the ECC cluster, in bytes: the work slice
abbrev pub work_size : ℕ
work_size = 76880

-- a modulated frame with its sync, in bits
abbrev pub frame_size : ℕ
frame_size = 1932

-- the frames of a cluster, in bits
abbrev pub recording_size : ℕ
recording_size = 958272

-- the image, in bytes
abbrev pub image_size : ℕ
image_size = 119788
