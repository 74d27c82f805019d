-- What writing the BIS cluster leaves in the ECC cluster: `before` at entry, `after` at exit.
use Rattle.std.specs.Prelude.{List, ℕ, ◌/◌, ◌%◌}
use Rattle.laws.specs.Scatter.{Scattered}
use Rattle.bis.specs.BisCluster.{bis_byte}
use Rattle.cluster.specs.Multiplex.{bis_index}

-- the BIS cluster stands at its places; all else is as it was
pub record BisPut (before : List ℕ) (block : List (List ℕ)) (after : List ℕ) : Type 0 where
  pub put : Scattered 0 (λ m. bis_index (m / 3) (m % 3)) (λ m. bis_byte block (m / 3) (m % 3)) before 1488 after
