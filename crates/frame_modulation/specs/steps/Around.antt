-- The bits around a frame in the bytes that it shares.
use Rattle.std.specs.Prelude.{ℕ, ◌-◌, ◌^◌, ◌<◌, ◌≤◌}

-- in 242 bytes `lag` bits of `first` stand before the modulation bits of a frame, and 34 - lag bits of `last` behind them
pub record Around (first lag last : ℕ) : Type 0 where
  pub some : 15 ≤ lag
  pub most : lag ≤ 34
  pub front : first < 2 ^ lag
  pub back : last < 2 ^ (34 - lag)
