-- 13.14 to 13.17: the recording of an ECC cluster with its dc words.
use Rattle.std.specs.Prelude.{Bool, List, ℕ, get_or}
use Rattle.modulation.specs.Sync.{sync_number}
use Rattle.modulation.specs.Stream.{Recording}
use Rattle.frame.specs.Frame.{frame_pairs}
use Rattle.cluster.specs.EccCluster.{row_of}

-- row n, with dc word n, behind the sync of frame n (Figure 41); # of the first sync is given
abbrev pub recording_of : Bool → List ℕ → List ℕ → Recording
recording_of first work dc = record { first = first; number = sync_number; frames = λ n. frame_pairs (row_of work n) (get_or dc n 0) }
