-- Physical sector numbers (PSN) and the data zones (17.2).
use Rattle.std.specs.Prelude.{Bool, ◌&&◌, ◌||◌, ℕ, ◌%◌, leb, eqb}

-- a data zone: its first and its last PSN
pub record Zone : Type 0 where
  pub first : ℕ
  pub last : ℕ

abbrev pub zone0 : Zone
zone0 = record { first = 0x0010_0000; last = 0x0108_9BFF }

abbrev pub zone1 : Zone
zone1 = record { first = 0x02F7_6400; last = 0x03EF_FFFF }

abbrev pub zone2 : Zone
zone2 = record { first = 0x0410_0000; last = 0x0508_9BFF }

abbrev pub within : Zone → ℕ → Bool
within z psn = leb z.first psn && leb psn z.last

abbrev pub in_data_zone : ℕ → Bool
in_data_zone psn = within zone0 psn || (within zone1 psn || within zone2 psn)

-- the PSN of a cluster's first sector is a multiple of 32
abbrev pub first_of_cluster : ℕ → Bool
first_of_cluster psn = eqb (psn % 32) 0
